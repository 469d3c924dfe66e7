-- How far a word is read: what the private type of src/state.rt keeps.
use Rattle.std.specs.Prelude.{ℕ}
use Rattle.expand.specs.declared.state.Begun.{Begun}
use Rattle.expand.specs.declared.state.Begun.TheVariants.{AfterBrace, InBracedName, AfterColon}

-- how many `${` are begun that no word is open of yet
abbrev pub opening : Begun → ℕ
opening AfterBrace = 1
opening (InBracedName v) = 1
opening (AfterColon v) = 1
opening _ = 0
