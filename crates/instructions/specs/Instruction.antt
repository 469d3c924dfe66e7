-- An instruction, and what each keeps that a line spells.
use Rattle.std.specs.Prelude.{◌≡◌, ◌≢◌, ◌<◌, ◌≤◌, ℕ, Bool, true, false, List, [], Some, length, map}
use Rattle.std.specs.List.{list_all}
use Rattle.plain.specs.Limits.{most_mounts}
use Rattle.ascii.specs.Names.{is_name}
use Rattle.instructions.specs.From.{is_bad_name}
use Rattle.instructions.specs.declared.instruction.Argument.{Argument}
use Rattle.instructions.specs.declared.instruction.Assignment.{Assignment}
use Rattle.instructions.specs.declared.instruction.Command.{Command}
use Rattle.instructions.specs.declared.instruction.Command.TheVariants.{Exec, Shell as Script}
use Rattle.instructions.specs.declared.instruction.Source.{Source}
use Rattle.instructions.specs.declared.instruction.Source.TheVariants.{Files, Document}
use Rattle.instructions.specs.declared.instruction.InstructionKind.{InstructionKind}
use Rattle.instructions.specs.declared.instruction.InstructionKind.TheVariants.{From, Arg, Env, Label, Expose, User, Workdir, StopSignal, Volume, Shell, Cmd, Entrypoint, Run, Copy}

-- an instruction of a Dockerfile: the number of its logical line's first line in the file, and which it is with its arguments (Dockerfile
-- reference)
pub record Instruction : Type 0 where
  pub line : ℕ
  pub kind : InstructionKind

-- the names that ARG declares
abbrev pub argument_names : List Argument → List (List ℕ)
argument_names arguments = map (λ a. a.name) arguments

-- the names that ENV sets
abbrev pub assignment_names : List Assignment → List (List ℕ)
assignment_names assignments = map (λ a. a.name) assignments

-- there is something to run: a word in the list, or a text that isn't empty
abbrev pub HasWord : Command → Type 0
HasWord (Exec words) = 0 < length words
HasWord (Script text) = 0 < length text

-- whether a source of a COPY is a pattern, and no heredoc
abbrev pub is_files : Source → Bool
is_files (Files pattern) = true
is_files (Document name body) = false

-- the names of a FROM, an ARG and an ENV are names; where one argument or more are wanted there are some; a RUN has something to
-- run and no more mounts than are allowed; a `--from` names something, and no source beside it is a heredoc (Dockerfile reference;
-- the form of names and the number of mounts: own)
abbrev pub IsInstruction : InstructionKind → Type 0
IsInstruction (From image name) = is_bad_name name ≡ false
IsInstruction (Arg arguments) = (0 < length arguments) × (list_all is_name (argument_names arguments) ≡ true)
IsInstruction (Env assignments) = (0 < length assignments) × (list_all is_name (assignment_names assignments) ≡ true)
IsInstruction (Label labels) = 0 < length labels
IsInstruction (Expose ports) = 0 < length ports
IsInstruction (User user) = Unit {0}
IsInstruction (Workdir path) = Unit {0}
IsInstruction (StopSignal signal) = Unit {0}
IsInstruction (Volume paths) = 0 < length paths
IsInstruction (Shell words) = 0 < length words
IsInstruction (Cmd command) = Unit {0}
IsInstruction (Entrypoint command) = Unit {0}
IsInstruction (Run mounts command) = (length mounts ≤ most_mounts) × HasWord command
IsInstruction (Copy sources destination flags) =
    (0 < length sources) × ((name : List ℕ) → flags.from ≡ Some name → name ≢ [])
    × ((name : List ℕ) → flags.from ≡ Some name → list_all is_files sources ≡ true)
