-- What the reading of a file's lines answers.
use Rattle.std.specs.Prelude.{◌≡◌, ℕ, Result, Ok, Err, List}
use Rattle.std.specs.declared.vec.Vec.{Vec}
use Rattle.plain.specs.declared.fault.Fault.{Fault}
use Rattle.plain.specs.declared.fault.Fault.TheVariants.{Because, Memory}
use Rattle.ignorefile.specs.declared.fault.BadLine.{BadLine}
use Rattle.ignorefile.specs.declared.line.Line.{Line}

-- the lines that are said, or the first bad one
abbrev pub AreRead : {A : Type 0} → Result (List Line) ℕ → Result (Vec Line A) (Fault BadLine) → Type 0
AreRead said (Ok found) = said ≡ Ok found.items
AreRead said (Err (Because bad)) = said ≡ Err bad.number
AreRead said (Err Memory) = Unit {0}
