-- What reading a bundle answers (own): what it holds, with its context filtered by its own ignore file; or R20 where the bytes are no bundle,
-- and else R19 where its ignore file is bad.
use Rattle.std.specs.Prelude.{◌≡◌, ◌⊎◌, ℕ, ◌-◌, ◌^◌, Bool, false, Option, Some, None, Result, Ok, Err, List, [], ◌∷◌, map, nat_lt, bytes_eq, codes, if◌then◌else◌}
use Rattle.serde_json.specs.Data.{Data}
use Rattle.plain.specs.declared.fault.Fault.{Fault}
use Rattle.plain.specs.declared.fault.Fault.TheVariants.{Because, Memory}
use Rattle.plain.specs.declared.refusal.Refusal.{Refusal}
use Rattle.plain.specs.declared.refusal.Code.TheVariants.{R19, R20}
use Rattle.trees.specs.declared.entry.Entry.{Entry}
use Rattle.trees.specs.declared.entry.Entry.TheVariants.{Directory, File}
use Rattle.ignorefile.specs.declared.line.Line.{Line}
use Rattle.ignorefile.specs.File.{ignore_of}
use Rattle.contexts.specs.Context.{IsListing, IsContext}
use Rattle.cachemounts.specs.Content.{common_content}
use Rattle.trees.specs.Row.{Row}
use Rattle.bundle.specs.declared.parts.Parts.{Parts}
use Rattle.bundle.specs.declared.whole.Bundle.{Bundle}
use Rattle.bundle.specs.Parts.{parts_of}

-- the path `/.dockerignore`
abbrev pub is_ignore_path : List (List ℕ) → Bool
is_ignore_path [] = false
is_ignore_path (name ∷ []) = bytes_eq name (codes ".dockerignore")
is_ignore_path (name ∷ next ∷ names) = false

-- the bytes of a file; a directory has none
abbrev pub bytes_in : Entry → List ℕ
bytes_in (Directory meta) = []
bytes_in (File meta content) = content

-- the bytes of a context's ignore file, its file `/.dockerignore`; without one it ignores nothing, as an empty one does (.dockerignore rules)
abbrev pub ignore_bytes : List Row → List ℕ
ignore_bytes [] = []
ignore_bytes (row ∷ rows) = if is_ignore_path row.0 then bytes_in row.1 else ignore_bytes rows

-- what is told of a line that has a number: a number that is too great for an answer is told as the greatest one, which no bundle within the
-- limit has
abbrev pub told_line : ℕ → ℕ
told_line number = if nat_lt number (2 ^ 32) then number else 2 ^ 32 - 1

-- a bundle is what its parts say: its context is a listing, filtered by the lines of its ignore file, and its caches hold their common contents
pub record IsBundle {C : Type 0} (parts : Parts C) (lines : List Line) (bundle : Bundle C) : Type 0 where
  pub listing : IsListing parts.files.context
  pub dockerfile : bundle.dockerfile ≡ parts.files.dockerfile
  pub context : IsContext parts.files.context lines bundle.context
  pub images : bundle.images ≡ parts.named.images
  pub digests : bundle.digests ≡ parts.named.digests
  pub args : bundle.args ≡ parts.named.args
  pub caches : bundle.caches ≡ record { contents = map common_content parts.named.caches; holds = [] }
  pub target : bundle.target ≡ parts.files.target

-- the parts give this bundle, or have a bad line in their ignore file, which is told
abbrev pub Completes : {C : Type 0} → Parts C → Result (Bundle C) (Fault Refusal) → Type 0
Completes parts (Ok bundle) = (lines : List Line) × ((ignore_of (ignore_bytes parts.files.context) ≡ Ok lines) × IsBundle parts lines bundle)
Completes parts (Err (Because refusal)) = (number : ℕ) × ((ignore_of (ignore_bytes parts.files.context) ≡ Err number) × (refusal ≡ record { code = R19; line = told_line number }))
Completes parts (Err Memory) = Unit {0}

-- bytes give this bundle or this refusal: R20 without a line where they are no bundle, else R19 with the first bad line of the ignore file; want
-- of memory tells nothing
abbrev pub ReadsBundle : {C : Type 0} → (Data → Option C) → List ℕ → Result (Bundle C) (Fault Refusal) → Type 0
ReadsBundle {C} config bytes (Ok bundle) = (parts : Parts C) × ((parts_of config bytes ≡ Some parts) × Completes parts (Ok bundle))
ReadsBundle {C} config bytes (Err (Because refusal)) =
    ((parts_of config bytes ≡ None) × (refusal ≡ record { code = R20; line = 0 }))
    ⊎ ((parts : Parts C) × ((parts_of config bytes ≡ Some parts) × Completes parts (Err (Because refusal))))
ReadsBundle {C} config bytes (Err Memory) = Unit {0}
