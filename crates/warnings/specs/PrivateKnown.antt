-- What the code has of what a file says of names.
use Rattle.std.specs.Prelude.{◌≡◌, ◌||◌, ℕ, Bool, List, Option, Some, None, bytes_eq, option_map}
use Rattle.std.specs.List.{list_any}
use Rattle.std.specs.Map.{lookup}
use Rattle.named.specs.declared.present.Present.{Present}
use Rattle.named.specs.Rows.{add_row, has_row}
use Rattle.instructions.specs.Instruction.{Instruction}
use Rattle.instructions.specs.declared.instruction.Argument.{Argument}
use Rattle.scopes.specs.Evaluate.{Values}
use Rattle.warnings.specs.Known.{Known, given_name, given_names, stage_by, stage_lines}
use Rattle.warnings.specs.declared.known.Known as declared

-- a row, if there is one, added to some
abbrev pub add_some : {V : Type 0} → List (List ℕ × V) → Option (List ℕ × V) → List (List ℕ × V)
add_some rows None = rows
add_some rows (Some row) = add_row rows row.0 row.1

-- the row of a name that an ARG declares with a default
abbrev pub default_row : Argument → Option (List ℕ × Present)
default_row argument = option_map (λ name. (name, record {})) (given_name argument)

-- rows in which each name is found as in those of a file's stages
abbrev pub AreStageRows : List Instruction → List (List ℕ × ℕ) → Type 0
AreStageRows is rows = (name : List ℕ) → lookup (bytes_eq name) rows ≡ lookup (bytes_eq name) (stage_lines is)

-- rows of names, of which each is one that the file's first ARGs give a default
abbrev pub AreGivenRows : List Instruction → List (List ℕ × Present) → Type 0
AreGivenRows is rows = (name : List ℕ) → has_row name rows ≡ list_any (bytes_eq name) (given_names is)

-- the names that have rows after these are added
abbrev pub AddsNames : List (List ℕ) → List (List ℕ × Present) → List (List ℕ × Present) → Type 0
AddsNames names old new = (name : List ℕ) → has_row name new ≡ (has_row name old || list_any (bytes_eq name) names)

-- the code knows what the file says
pub record KnowsFile (is : List Instruction) (known : declared.Known) : Type 0 where
  pub stages : AreStageRows is known.stages
  pub given : AreGivenRows is known.given

-- a name has a row
abbrev pub given_by : List (List ℕ × Present) → List ℕ → Bool
given_by rows name = has_row name rows

-- what it knows
abbrev pub known_by : Values → declared.Known → Known
known_by args known = record { argument = args; stage = stage_by known.stages; is_given = given_by known.given }
