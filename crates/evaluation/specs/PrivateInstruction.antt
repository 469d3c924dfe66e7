-- Parts of what an instruction does.
use Rattle.std.specs.Prelude.{ℕ, Bool, List, ◌++◌, map, Option, Some, None}
use Rattle.plain.specs.declared.fault.Fault.{Fault}
use Rattle.plain.specs.declared.fault.Fault.TheVariants.{Because, Memory}
use Rattle.plain.specs.declared.refusal.Code.{Code}
use Rattle.plain.specs.declared.variable.Variable.{Variable}
use Rattle.expand.specs.declared.reason.Rejection.{Rejection}
use Rattle.rows.specs.declared.row.Action.{Action}
use Rattle.rows.specs.declared.row.Action.TheVariants.{MakeDirs}
use Rattle.rows.specs.declared.row.Origin.{Origin}
use Rattle.instructions.specs.declared.instruction.Assignment.{Assignment}
use Rattle.instructions.specs.declared.instruction.InstructionKind.{InstructionKind}
use Rattle.instructions.specs.declared.instruction.InstructionKind.TheVariants.{From, Arg, Env, Label, Expose, User, Workdir, StopSignal, Volume, Shell, Cmd, Entrypoint, Run, Copy}
use Rattle.expand.specs.Reasons.{reason_of}
use Rattle.expand.specs.declared.fault.Unexpanded.{Unexpanded}
use Rattle.expand.specs.declared.reason.Reason.{Reason}
use Rattle.expand.specs.declared.reason.Reason.TheVariants.{Coded}
use Rattle.scopes.specs.Scope.{value_in, kept}
use Rattle.scopes.specs.Evaluate.{Values, declaration_of, env_line, arg_fault}
use Rattle.stages.specs.Due.{argument_due}
use Rattle.imageconfig.specs.Environment.{row_of}
use Rattle.imageconfig.specs.Rows.{put_rows}
use Rattle.imageconfig.specs.Steps.{changed, nothing_due}
use Rattle.imageconfig.specs.Steps as config
use Rattle.actions.specs.Copy.{copy_action, copy_due, copy_fault}
use Rattle.actions.specs.Run.{run_action, run_due}
use Rattle.evaluation.specs.Instruction.{dir_in, first_of, after, action_in}
use Rattle.evaluation.specs.declared.instruction.Done.{Done}
use Rattle.evaluation.specs.declared.state.State.{State}

-- a fault with its line
abbrev pub with_line : Fault Reason → ℕ → Fault Rejection
with_line (Because reason) line = Because (record { reason = reason; line = line })
with_line Memory line = Memory

-- the fault of a line one of whose texts has no value
abbrev pub text_fault : Fault Unexpanded → Fault Reason
text_fault (Because why) = Because (reason_of why)
text_fault Memory = Memory

-- the fault of a line that expands nothing
abbrev pub code_fault : Fault Code → Fault Reason
code_fault (Because code) = Because (Coded code)
code_fault Memory = Memory

-- what an instruction leaves that changes the configuration alone
abbrev pub configured : State → InstructionKind → State
configured s kind = record { scope = s.scope; config = changed (value_in s.scope) s.config kind }

-- what setting variables leaves
abbrev pub both_set : State → List Variable → State
both_set s variables = record {
  scope = kept (s.scope ++ map declaration_of variables);
  config = record s.config { env = put_rows s.config.env (map row_of variables) };
}

-- what an ENV leaves
abbrev pub variables_set : State → List Assignment → State
variables_set s assignments = record {
  scope = kept (s.scope ++ env_line (value_in s.scope) assignments);
  config = changed (value_in s.scope) s.config (Env assignments);
}

-- the codes that are due for what an instruction leaves; a RUN and a COPY leave what they found
abbrev pub left_due : Values → State → InstructionKind → Code → Bool
left_due args s (From image name) = config.due (value_in s.scope) s.config (From image name)
left_due args s (Arg arguments) = argument_due (arg_fault (value_in s.scope) args arguments)
left_due args s (Env assignments) = config.due (value_in s.scope) s.config (Env assignments)
left_due args s (Label labels) = config.due (value_in s.scope) s.config (Label labels)
left_due args s (Expose ports) = config.due (value_in s.scope) s.config (Expose ports)
left_due args s (User user) = config.due (value_in s.scope) s.config (User user)
left_due args s (Workdir path) = config.due (value_in s.scope) s.config (Workdir path)
left_due args s (StopSignal signal) = config.due (value_in s.scope) s.config (StopSignal signal)
left_due args s (Volume paths) = config.due (value_in s.scope) s.config (Volume paths)
left_due args s (Shell words) = config.due (value_in s.scope) s.config (Shell words)
left_due args s (Cmd command) = config.due (value_in s.scope) s.config (Cmd command)
left_due args s (Entrypoint command) = config.due (value_in s.scope) s.config (Entrypoint command)
left_due args s (Run mounts command) = config.due (value_in s.scope) s.config (Run mounts command)
left_due args s (Copy sources destination flags) = config.due (value_in s.scope) s.config (Copy sources destination flags)

-- why a text that it expands for that has no value, if one has none
abbrev pub left_fault : Values → State → InstructionKind → Option Unexpanded
left_fault args s (Arg arguments) = arg_fault (value_in s.scope) args arguments
left_fault args s kind = config.fault (value_in s.scope) kind

-- what an instruction does to the tree, by what it left
abbrev pub acted : State → InstructionKind → List Origin → Option Action
acted s (From image name) origins = None
acted s (Arg arguments) origins = None
acted s (Env assignments) origins = None
acted s (Label labels) origins = None
acted s (Expose ports) origins = None
acted s (User user) origins = None
acted s (Workdir path) origins = Some (MakeDirs (dir_in s))
acted s (StopSignal signal) origins = None
acted s (Volume paths) origins = None
acted s (Shell words) origins = None
acted s (Cmd command) origins = None
acted s (Entrypoint command) origins = None
acted s (Run mounts command) origins = Some (run_action s.scope (dir_in s) s.config.user s.config.shell mounts command origins)
acted s (Copy sources destination flags) origins = Some (copy_action s.scope (dir_in s) sources destination flags (first_of origins))

-- the codes that are due for that
abbrev pub acted_due : State → InstructionKind → Code → Bool
acted_due s (From image name) = nothing_due
acted_due s (Arg arguments) = nothing_due
acted_due s (Env assignments) = nothing_due
acted_due s (Label labels) = nothing_due
acted_due s (Expose ports) = nothing_due
acted_due s (User user) = nothing_due
acted_due s (Workdir path) = nothing_due
acted_due s (StopSignal signal) = nothing_due
acted_due s (Volume paths) = nothing_due
acted_due s (Shell words) = nothing_due
acted_due s (Cmd command) = nothing_due
acted_due s (Entrypoint command) = nothing_due
acted_due s (Run mounts command) = run_due (dir_in s) mounts
acted_due s (Copy sources destination flags) = copy_due s.scope (dir_in s) sources destination

-- why a text that is expanded for that has no value, if one has none
abbrev pub acted_fault : State → InstructionKind → Option Unexpanded
acted_fault s (Copy sources destination flags) = copy_fault s.scope sources destination
acted_fault s kind = None

-- what an instruction left and does by that
abbrev pub finished : State → InstructionKind → List Origin → Done
finished s kind origins = record { state = s; action = acted s kind origins }

-- what an instruction leaves, and what it does
abbrev pub done : Values → Values → State → InstructionKind → List Origin → Done
done args outer s kind origins = record { state = after args outer s kind; action = action_in s kind origins }
