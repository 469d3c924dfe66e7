-- The line of an ignore file that leaves a path out (own).
use Rattle.std.specs.Prelude.{◌≡◌, ℕ, Bool, true, false, Option, Some, None, Result, Ok, Err, List, []}
use Rattle.serde_json.specs.Data.{Data}
use Rattle.plain.specs.declared.fault.Fault.{Fault}
use Rattle.plain.specs.declared.fault.Fault.TheVariants.{Because, Memory}
use Rattle.plain.specs.declared.refusal.Refusal.{Refusal}
use Rattle.paths.specs.Reading.{read_from, limit_of}
use Rattle.paths.specs.declared.fault.PathLimit.{PathLimit}
use Rattle.ignorefile.specs.declared.line.Line.{Line}
use Rattle.ignorefile.specs.Kept.{IsDeciding}
use Rattle.bundle.specs.IgnoreFile.{HasIgnoreFile}
use Rattle.bundle.specs.Reading.{ReadsBundle}
use Rattle.bundle.specs.declared.whole.IgnoreFile.{IgnoreFile}
use Rattle.reasons.specs.Reasons.{StandsAt}
use Rattle.reasons.specs.declared.leaving.LeavingLine.{LeavingLine}

-- the line of this number and text, which decides of a path, if it leaves the path out: an exception keeps it
abbrev pub leaving : Bool → ℕ → List ℕ → Option LeavingLine
leaving true number text = None
leaving false number text = Some (record { number = number; text = text })

-- the line that leaves a path out, where this one decides of it, if one does
abbrev pub LeavesLine : IgnoreFile → Option ℕ → Option LeavingLine → Type 0
LeavesLine file None left = left ≡ None
LeavesLine file (Some position) left =
    (line : Line) × (number : ℕ) × (text : List ℕ) × StandsAt file position line number text × (left ≡ leaving line.exception number text)

-- the line that leaves a path out, if one does
abbrev pub LeavesBy : IgnoreFile → List (List ℕ) → Option LeavingLine → Type 0
LeavesBy file path left = (deciding : Option ℕ) × IsDeciding file.lines path deciding × LeavesLine file deciding left

-- the same of a word that leads to these names: one that breaks a limit of paths is left out by none
abbrev pub LeavesPath : IgnoreFile → List (List ℕ) → Option PathLimit → Option LeavingLine → Type 0
LeavesPath file path (Some limit) left = left ≡ None
LeavesPath file path None left = LeavesBy file path left

-- the same of a word, which is read as a path from the root of the context, as the sources of a COPY are
abbrev pub IsLeaving : IgnoreFile → List ℕ → Option LeavingLine → Type 0
IsLeaving file word left = LeavesPath file (read_from word []) (limit_of (read_from word [])) left

-- the line that leaves a word out of a bundle's context, or the refusal that reading the bundle gives; want of memory tells nothing
abbrev pub LeavesWord : {C : Type 0} → (Data → Option C) → List ℕ → List ℕ → Result (Option LeavingLine) (Fault Refusal) → Type 0
LeavesWord {C} config bytes word (Ok left) = (file : IgnoreFile) × HasIgnoreFile config bytes file × IsLeaving file word left
LeavesWord {C} config bytes word (Err (Because refusal)) = ReadsBundle config bytes (Err (Because refusal))
LeavesWord {C} config bytes word (Err Memory) = Unit {0}
