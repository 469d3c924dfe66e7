-- What stands before an instruction in a file: the names of the stages that begin there, and the scope of the ARGs before the first FROM.
use Rattle.std.specs.Prelude.{◌-◌, ℕ, List, [], ◌∷◌, Option, Some, None, option_map, length, take}
use Rattle.std.specs.List.{filter_map}
use Rattle.expand.specs.Value.{Parts}
use Rattle.instructions.specs.declared.instruction.Argument.{Argument}
use Rattle.instructions.specs.Instruction.{Instruction}
use Rattle.instructions.specs.declared.instruction.InstructionKind.{InstructionKind}
use Rattle.instructions.specs.declared.instruction.InstructionKind.TheVariants.{From, Arg, Env, Label, Expose, User, Workdir, StopSignal, Volume, Shell, Cmd, Entrypoint, Run, Copy}
use Rattle.scopes.specs.History.{ScopeLine, declares, scope_after}
use Rattle.scopes.specs.Evaluate.{Values}
use Rattle.scopes.specs.declared.declaration.Declaration.{Declaration}
use Rattle.stages.specs.Naming.{Names}

-- the image and the name of the stage that an instruction begins, if it is a FROM
abbrev pub begun : InstructionKind → Option (Parts × Option (List ℕ))
begun (From image name) = Some (image, name)
begun (Arg arguments) = None
begun (Env assignments) = None
begun (Label labels) = None
begun (Expose ports) = None
begun (User user) = None
begun (Workdir path) = None
begun (StopSignal signal) = None
begun (Volume paths) = None
begun (Shell words) = None
begun (Cmd command) = None
begun (Entrypoint command) = None
begun (Run mounts command) = None
begun (Copy sources destination flags) = None

-- what an instruction declares, if it is an ARG
abbrev pub declared_by : InstructionKind → Option (List Argument)
declared_by (From image name) = None
declared_by (Arg arguments) = Some arguments
declared_by (Env assignments) = None
declared_by (Label labels) = None
declared_by (Expose ports) = None
declared_by (User user) = None
declared_by (Workdir path) = None
declared_by (StopSignal signal) = None
declared_by (Volume paths) = None
declared_by (Shell words) = None
declared_by (Cmd command) = None
declared_by (Entrypoint command) = None
declared_by (Run mounts command) = None
declared_by (Copy sources destination flags) = None

-- the name of the stage that an instruction begins, if it begins one
abbrev pub name_begun : Instruction → Option (Option (List ℕ))
name_begun i = option_map (λ stage. stage.1) (begun i.kind)

-- the names of the stages that some instructions begin, in their order: a stage's number is its place among them (Dockerfile reference, FROM)
abbrev pub stage_names : List Instruction → Names
stage_names is = filter_map name_begun is

-- the names of all stages but the last: of those before the stage that the instruction after these stands in
abbrev pub all_but_last : Names → Names
all_but_last names = take (length names - 1) names

-- a line and those after it, where it is an ARG, or those after it alone
abbrev pub with_declared : Option (List Argument) → List ScopeLine → List ScopeLine
with_declared None lines = lines
with_declared (Some arguments) lines = declares arguments ∷ lines

-- the lines before the first FROM, where that is what the first of some instructions begins
abbrev pub up_to : Option (Parts × Option (List ℕ)) → List ScopeLine → List ScopeLine
up_to (Some stage) lines = []
up_to None lines = lines

-- the ARG lines that stand before the first FROM (Dockerfile reference, how ARG and FROM interact)
abbrev pub outer_lines : List Instruction → List ScopeLine
outer_lines [] = []
outer_lines (i ∷ is) = up_to (begun i.kind) (with_declared (declared_by i.kind) (outer_lines is))

-- the scope of the ARGs before the first FROM, with these build arguments: each sees those before it. FROM lines see these alone
-- (Dockerfile reference, how ARG and FROM interact)
abbrev pub outer_scope : Values → List Instruction → List Declaration
outer_scope args is = scope_after args (λ name. None) [] (outer_lines is)
