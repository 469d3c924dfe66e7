-- Parts of a stage's step: what each of them answers.
use Rattle.std.specs.Prelude.{◌||◌, ℕ, List, [], ◌++◌, None, Result, Ok}
use Rattle.plain.specs.declared.fault.Fault.{Fault}
use Rattle.expand.specs.declared.reason.Rejection.{Rejection}
use Rattle.rows.specs.declared.row.Origin.{Origin}
use Rattle.rows.specs.declared.row.Step.{Step}
use Rattle.instructions.specs.Reason.{reason}
use Rattle.instructions.specs.declared.instruction.InstructionKind.{InstructionKind}
use Rattle.scopes.specs.Evaluate.{Values}
use Rattle.stages.specs.declared.stage.ResolvedInstruction.{ResolvedInstruction}
use Rattle.evaluation.specs.Images.{ImageNames, many_codes}
use Rattle.evaluation.specs.Instruction.{due, fault}
use Rattle.evaluation.specs.PrivateInstruction.{done}
use Rattle.imageconfig.specs.Stage.{unless_due}
use Rattle.stages.specs.Resolved.{Returns}
use Rattle.evaluation.specs.PrivateRefusals.{EvaluatesTo}
use Rattle.evaluation.specs.Stages.{step_of, next_instruction, instructions_from}
use Rattle.evaluation.specs.declared.instruction.Done.{Done}
use Rattle.evaluation.specs.declared.stage.Progress.{Progress}
use Rattle.evaluation.specs.declared.state.State.{State}

-- what an instruction of this line answers
unfoldable pub IsDone : Values → Values → State → InstructionKind → List Origin → ℕ → Result Done (Fault Rejection) → Type 0
IsDone args outer s kind origins line result = EvaluatesTo (done args outer s kind origins) (due args s kind) (fault args s kind) line result

-- a stage at its beginning, with these images named
abbrev pub begun_with : State → ImageNames → Progress
begun_with state names = record { state = state; steps = []; names = names }

-- a stage of these steps, with what an instruction of this line left and did
abbrev pub put_to : List Step → ImageNames → ℕ → Done → Progress
put_to steps names line made = record { state = made.state; steps = steps ++ step_of line made.action; names = names }

-- what putting it to the stage answers, with these images named
unfoldable pub IsPut : List Step → ImageNames → ℕ → Done → Result Progress (Fault Rejection) → Type 0
IsPut steps names line made result = Returns (unless_due (reason (many_codes names) None) line (Ok (put_to steps names line made))) result

-- what an instruction of this line answers that is put to a stage of these steps, with these images named
unfoldable pub IsStepped : Values → Values → State → InstructionKind → List Origin → ℕ → List Step → ImageNames → Result Progress (Fault Rejection) → Type 0
IsStepped args outer s kind origins line steps names result =
    Returns (unless_due (reason (λ code. due args s kind code || many_codes names code) (fault args s kind)) line (Ok (put_to steps names line (done args outer s kind origins)))) result

-- what the next instruction of a stage answers
unfoldable pub IsNext : Values → Values → Progress → ResolvedInstruction → Result Progress (Fault Rejection) → Type 0
IsNext args outer p r result = Returns (next_instruction args outer p r) result

-- what the instructions of a stage answer
unfoldable pub AreNext : Values → Values → Progress → List ResolvedInstruction → Result Progress (Fault Rejection) → Type 0
AreNext args outer p rs result = Returns (instructions_from args outer (Ok p) rs) result
