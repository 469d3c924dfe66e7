-- What is kept of what a bundle is read from, and what is known of it once it was opened (own).
use Rattle.std.specs.Prelude.{◌≡◌, ◌⊎◌, ◌≤◌, ℕ, List, length, Option, Some, None, Ok}
use Rattle.command.specs.Sources.{misplaced}
use Rattle.command.specs.declared.task.Choice.{Choice}
use Rattle.packing.specs.Ends.{PacksText}
use Rattle.plain.specs.Limits.{most_bundle_bytes}
use Rattle.program.specs.declared.input.BundleFile.{BundleFile}
use Rattle.program.specs.declared.input.Input.{Input}
use Rattle.program.specs.declared.input.Input.TheVariants.{Given, File, Folder}
use Rattle.program.specs.declared.input.Packing.{Packing}
use Rattle.program.specs.declared.input.TextReader.{TextReader}
use Rattle.program.specs.Runs.{IsShut, IsUnopened, RefusesChoice, asked_for}
use Rattle.program.specs.Saying.{Stream}

-- how many reads of a file failed
abbrev pub failures_of : {T : Type 0} → BundleFile T → ℕ
failures_of file = file.failures

-- what a reader of a text has left of it
abbrev pub left_of : TextReader → List ℕ
left_of reader = reader.rest.now

-- a file was opened, beside which nothing is chosen
pub record IsOfFile (place : Option (List ℕ)) (choice : Choice) (failed : ℕ) : Type 0 where
  pub name : List ℕ
  pub is : place ≡ Some name
  pub free : misplaced choice ≡ None
  pub none : failed ≡ 0

-- a text is that of a folder's bundle, and no larger than one may be
pub record IsTextOf (choice : Choice) (packing : Packing) (text : List ℕ) : Type 0 where
  pub packs : PacksText (asked_for choice packing) (Ok (Some text))
  pub short : length text ≤ most_bundle_bytes

-- what a bundle is read from was opened
abbrev pub IsOpened : {T : Type 0} → Option (List ℕ) → Choice → Packing → Input T → Type 0
IsOpened place choice packing Given = place ≡ None
IsOpened place choice packing (File file) = IsOfFile place choice (failures_of file)
IsOpened place choice packing (Folder folder) = ((name : List ℕ) × (place ≡ Some name)) × IsTextOf choice packing folder.text

-- or it wasn't
abbrev pub IsNotOpened : Option (List ℕ) → Choice → Packing → Stream → Stream → ℕ → Type 0
IsNotOpened None choice packing old new status = ⊥
IsNotOpened (Some name) choice packing old new status = IsShut name choice packing old new status

-- a file of this name wasn't opened, or something is chosen beside it
abbrev pub IsNoFile : List ℕ → Choice → Stream → Stream → ℕ → Type 0
IsNoFile name choice old new status = IsUnopened name old new status ⊎ RefusesChoice choice old new status
