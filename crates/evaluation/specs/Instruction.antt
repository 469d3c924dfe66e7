-- What an instruction of a stage does, where it stands: what it leaves to those after it, what it does to the stage's tree, and which
-- codes are due for it there. One instruction uses the values before it throughout (Dockerfile reference, environment replacement).
use Rattle.std.specs.Prelude.{ℕ, Bool, List, [], ◌∷◌, ◌++◌, Option, Some, None}
use Rattle.plain.specs.declared.refusal.Code.{Code}
use Rattle.llb.specs.declared.op.Source.TheVariants.{Context}
use Rattle.rows.specs.declared.row.Action.{Action}
use Rattle.rows.specs.declared.row.Action.TheVariants.{MakeDirs}
use Rattle.rows.specs.declared.row.Origin.{Origin}
use Rattle.rows.specs.declared.row.Origin.TheVariants.{Source as SourceOf}
use Rattle.instructions.specs.declared.instruction.InstructionKind.{InstructionKind}
use Rattle.instructions.specs.declared.instruction.InstructionKind.TheVariants.{From, Arg, Env, Label, Expose, User, Workdir, StopSignal, Volume, Shell, Cmd, Entrypoint, Run, Copy}
use Rattle.expand.specs.declared.fault.Unexpanded.{Unexpanded}
use Rattle.scopes.specs.Scope.{value_in, kept}
use Rattle.scopes.specs.Evaluate.{Values, env_line, arg_line, arg_fault}
use Rattle.scopes.specs.declared.declaration.Declaration.{Declaration}
use Rattle.stages.specs.Due.{argument_due}
use Rattle.imageconfig.specs.Steps.{dir_of, changed}
use Rattle.imageconfig.specs.Steps as config
use Rattle.actions.specs.Copy.{copy_action, copy_due, copy_fault}
use Rattle.actions.specs.Run.{run_action, run_due}
use Rattle.evaluation.specs.declared.state.State.{State}

-- the working directory where an instruction stands: that of the configuration
abbrev pub dir_in : State → List (List ℕ)
dir_in state = dir_of state.config.working_dir

-- what an instruction leaves of what names have values: ARG and ENV add their line, under the values before it
abbrev pub scope_after : Values → Values → State → InstructionKind → List Declaration
scope_after args outer s (From image name) = s.scope
scope_after args outer s (Arg arguments) = kept (s.scope ++ arg_line (value_in s.scope) args outer arguments)
scope_after args outer s (Env assignments) = kept (s.scope ++ env_line (value_in s.scope) assignments)
scope_after args outer s (Label labels) = s.scope
scope_after args outer s (Expose ports) = s.scope
scope_after args outer s (User user) = s.scope
scope_after args outer s (Workdir path) = s.scope
scope_after args outer s (StopSignal signal) = s.scope
scope_after args outer s (Volume paths) = s.scope
scope_after args outer s (Shell words) = s.scope
scope_after args outer s (Cmd command) = s.scope
scope_after args outer s (Entrypoint command) = s.scope
scope_after args outer s (Run mounts command) = s.scope
scope_after args outer s (Copy sources destination flags) = s.scope

-- what an instruction leaves to those after it
abbrev pub after : Values → Values → State → InstructionKind → State
after args outer s kind = record { scope = scope_after args outer s kind; config = changed (value_in s.scope) s.config kind }

-- the tree that the patterns of a COPY are looked for in
abbrev pub first_of : List Origin → Origin
first_of [] = SourceOf Context
first_of (origin ∷ origins) = origin

-- what an instruction does to its stage's tree, `origins` being the trees that it names: RUN, COPY and WORKDIR do something, WORKDIR makes
-- the directory that it leaves (Dockerfile reference, RUN, COPY and WORKDIR)
abbrev pub action_in : State → InstructionKind → List Origin → Option Action
action_in s (From image name) origins = None
action_in s (Arg arguments) origins = None
action_in s (Env assignments) origins = None
action_in s (Label labels) origins = None
action_in s (Expose ports) origins = None
action_in s (User user) origins = None
action_in s (Workdir path) origins = Some (MakeDirs (dir_of (changed (value_in s.scope) s.config (Workdir path)).working_dir))
action_in s (StopSignal signal) origins = None
action_in s (Volume paths) origins = None
action_in s (Shell words) origins = None
action_in s (Cmd command) origins = None
action_in s (Entrypoint command) origins = None
action_in s (Run mounts command) origins = Some (run_action s.scope (dir_in s) s.config.user s.config.shell mounts command origins)
action_in s (Copy sources destination flags) origins = Some (copy_action s.scope (dir_in s) sources destination flags (first_of origins))

-- the codes that are due for an instruction where it stands: by what ARG expands, by what RUN and COPY do, else by what becomes of the
-- configuration
abbrev pub due : Values → State → InstructionKind → Code → Bool
due args s (From image name) = config.due (value_in s.scope) s.config (From image name)
due args s (Arg arguments) = argument_due (arg_fault (value_in s.scope) args arguments)
due args s (Env assignments) = config.due (value_in s.scope) s.config (Env assignments)
due args s (Label labels) = config.due (value_in s.scope) s.config (Label labels)
due args s (Expose ports) = config.due (value_in s.scope) s.config (Expose ports)
due args s (User user) = config.due (value_in s.scope) s.config (User user)
due args s (Workdir path) = config.due (value_in s.scope) s.config (Workdir path)
due args s (StopSignal signal) = config.due (value_in s.scope) s.config (StopSignal signal)
due args s (Volume paths) = config.due (value_in s.scope) s.config (Volume paths)
due args s (Shell words) = config.due (value_in s.scope) s.config (Shell words)
due args s (Cmd command) = config.due (value_in s.scope) s.config (Cmd command)
due args s (Entrypoint command) = config.due (value_in s.scope) s.config (Entrypoint command)
due args s (Run mounts command) = run_due (dir_in s) mounts
due args s (Copy sources destination flags) = copy_due s.scope (dir_in s) sources destination

-- why a text of an instruction has no value where it stands, if one has none: of several such texts, the reason that is reported
abbrev pub fault : Values → State → InstructionKind → Option Unexpanded
fault args s (Arg arguments) = arg_fault (value_in s.scope) args arguments
fault args s (Copy sources destination flags) = copy_fault s.scope sources destination
fault args s kind = config.fault (value_in s.scope) kind
