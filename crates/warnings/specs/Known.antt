-- What a whole file and the build arguments say of names.
use Rattle.std.specs.Prelude.{ℕ, Bool, true, false, List, [], ◌∷◌, ◌++◌, Option, Some, None, bytes_eq, is_some, option_map, if◌then◌else◌}
use Rattle.std.specs.List.{filter_map, list_any}
use Rattle.std.specs.Map.{lookup}
use Rattle.std.specs.Str.{str_to_ascii_lowercase}
use Rattle.instructions.specs.Instruction.{Instruction}
use Rattle.instructions.specs.declared.instruction.Argument.{Argument}
use Rattle.instructions.specs.declared.instruction.InstructionKind.{InstructionKind}
use Rattle.instructions.specs.declared.instruction.InstructionKind.TheVariants.{From, Arg}
use Rattle.scopes.specs.Evaluate.{Values}

-- the name that an instruction gives the stage that it begins (Dockerfile reference, FROM)
abbrev pub begun_name : InstructionKind → Option (List ℕ)
begun_name (From image name) = name
begun_name kind = None

-- the name in lower case, with the line
abbrev pub stage_line : Instruction → Option (List ℕ × ℕ)
stage_line i = option_map (λ name. (str_to_ascii_lowercase name, i.line)) (begun_name i.kind)

-- the names of a file's stages in lower case, with the lines of their FROMs
abbrev pub stage_lines : List Instruction → List (List ℕ × ℕ)
stage_lines is = filter_map stage_line is

-- the line of the first FROM with a name, whatever the case of ASCII letters (Dockerfile reference, FROM; own for the
-- case)
abbrev pub stage_by : List (List ℕ × ℕ) → List ℕ → Option ℕ
stage_by lines name = lookup (bytes_eq (str_to_ascii_lowercase name)) lines

-- a name that an ARG declares with a default
abbrev pub given_name : Argument → Option (List ℕ)
given_name argument = if is_some argument.default then Some argument.name else None

-- an instruction begins a stage
abbrev pub begins_stage : InstructionKind → Bool
begins_stage (From image name) = true
begins_stage kind = false

-- the names that an instruction declares with a default
abbrev pub defaults : InstructionKind → List (List ℕ)
defaults (Arg arguments) = filter_map given_name arguments
defaults kind = []

-- the names to which the ARGs before the first FROM give a default (Dockerfile reference, how ARG and FROM interact)
abbrev pub given_names : List Instruction → List (List ℕ)
given_names [] = []
given_names (i ∷ is) = if begins_stage i.kind then [] else defaults i.kind ++ given_names is

-- what is known of names: the values of build arguments; the line of the first FROM with a name; whether an ARG before
-- the first FROM gives it a default
pub record Known : Type 0 where
  pub argument : Values
  pub stage : List ℕ → Option ℕ
  pub is_given : List ℕ → Bool

-- what is known of a file with these instructions, in a build with these arguments
abbrev pub known_of : Values → List Instruction → Known
known_of args is = record { argument = args; stage = stage_by (stage_lines is); is_given = λ name. list_any (bytes_eq name) (given_names is) }
