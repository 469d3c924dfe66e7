-- What the bytes of a bundle say of its ignore file (own).
use Rattle.std.specs.Prelude.{◌≡◌, ℕ, Option, Some, Result, Ok, Err, List}
use Rattle.std.specs.Option.{option_map}
use Rattle.serde_json.specs.Data.{Data}
use Rattle.plain.specs.declared.fault.Fault.{Fault}
use Rattle.plain.specs.declared.fault.Fault.TheVariants.{Because, Memory}
use Rattle.plain.specs.declared.refusal.Refusal.{Refusal}
use Rattle.ignorefile.specs.File.{ignore_of}
use Rattle.trees.specs.Row.{Row}
use Rattle.bundle.specs.declared.parts.Parts.{Parts}
use Rattle.bundle.specs.declared.whole.IgnoreFile.{IgnoreFile}
use Rattle.bundle.specs.Parts.{parts_of}
use Rattle.bundle.specs.Reading.{ignore_bytes, ReadsBundle}

-- an ignore file has the bytes of the one of a context, and the lines that these say
pub record IsIgnoreFile (context : List Row) (file : IgnoreFile) : Type 0 where
  pub bytes : file.bytes ≡ ignore_bytes context
  pub lines : ignore_of file.bytes ≡ Ok file.lines

-- bytes are a bundle with this ignore file
pub record HasIgnoreFile {C : Type 0} (config : Data → Option C) (bytes : List ℕ) (file : IgnoreFile) : Type 0 where
  pub parts : Parts C
  pub is : parts_of config bytes ≡ Some parts
  pub has : IsIgnoreFile parts.files.context file

-- bytes give this ignore file, or the refusal that reading the bundle gives; want of memory tells nothing
abbrev pub ReadsIgnoreFile : {C : Type 0} → (Data → Option C) → List ℕ → Result IgnoreFile (Fault Refusal) → Type 0
ReadsIgnoreFile {C} config bytes (Ok file) = HasIgnoreFile config bytes file
ReadsIgnoreFile {C} config bytes (Err (Because refusal)) = ReadsBundle config bytes (Err (Because refusal))
ReadsIgnoreFile {C} config bytes (Err Memory) = Unit {0}

-- the bytes of the ignore file of the bundle that bytes are, whether or not a line of it is bad
abbrev pub ignore_bytes_of : {C : Type 0} → (Data → Option C) → List ℕ → Option (List ℕ)
ignore_bytes_of {C} config bytes = option_map (λ (parts : Parts C). ignore_bytes parts.files.context) (parts_of config bytes)
