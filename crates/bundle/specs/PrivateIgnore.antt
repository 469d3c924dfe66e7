-- What looking for the ignore file of a context answers.
use Rattle.std.specs.Prelude.{◌≡◌, ℕ, Result, Ok, Err, List}
use Rattle.plain.specs.declared.fault.Fault.{Fault}
use Rattle.plain.specs.declared.fault.Fault.TheVariants.{Because, Memory}
use Rattle.plain.specs.declared.refusal.Refusal.{Refusal}
use Rattle.plain.specs.declared.refusal.Code.TheVariants.{R19}
use Rattle.ignorefile.specs.File.{ignore_of}
use Rattle.trees.specs.Row.{Row}
use Rattle.bundle.specs.declared.whole.IgnoreFile.{IgnoreFile}
use Rattle.bundle.specs.Reading.{ignore_bytes, told_line}
use Rattle.bundle.specs.IgnoreFile.{IsIgnoreFile}

-- the file, or its first bad line, which is told; want of memory tells nothing
abbrev pub FindsIgnore : List Row → Result IgnoreFile (Fault Refusal) → Type 0
FindsIgnore context (Ok file) = IsIgnoreFile context file
FindsIgnore context (Err (Because refusal)) = (number : ℕ) × ((ignore_of (ignore_bytes context) ≡ Err number) × (refusal ≡ record { code = R19; line = told_line number }))
FindsIgnore context (Err Memory) = Unit {0}
