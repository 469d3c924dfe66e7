-- What a search for a cut answers.
use Rattle.std.specs.Prelude.{ℕ, Bool, List, drop}
use Rattle.globs.specs.declared.cut.Found.{Found}
use Rattle.globs.specs.declared.cut.Found.TheVariants.{Yes, No, Never}
use Rattle.globs.specs.Cut.{CanBeCut}

module _ {P T : Type 0} (takes_any : P → Bool) (Holds : P → T → Type 0) where
  -- the items can be cut; they can't; nor can any tail of them
  abbrev pub IsFound : Found → List P → List T → Type 0
  IsFound Yes parts items = CanBeCut takes_any Holds parts items
  IsFound No parts items = CanBeCut takes_any Holds parts items → ⊥
  IsFound Never parts items = (k : ℕ) → CanBeCut takes_any Holds parts (drop k items) → ⊥
