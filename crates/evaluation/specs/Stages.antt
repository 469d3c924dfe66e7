-- The needed stages one after another, each with its instructions one after another, up to the first line that is refused.
use Rattle.std.specs.Prelude.{◌||◌, ℕ, Bool, List, [], ◌∷◌, ◌++◌, Option, Some, None, Result, Ok, Err, length, if◌then◌else◌}
use Rattle.plain.specs.Marks.{is_marked}
use Rattle.plain.specs.declared.refusal.Code.{Code}
use Rattle.expand.specs.declared.reason.Rejection.{Rejection}
use Rattle.plans.specs.Images.{ImagesValue}
use Rattle.rows.specs.declared.row.Action.{Action}
use Rattle.rows.specs.declared.row.Step.{Step}
use Rattle.instructions.specs.Reason.{reason}
use Rattle.scopes.specs.Evaluate.{Values}
use Rattle.stages.specs.declared.stage.ResolvedInstruction.{ResolvedInstruction}
use Rattle.stages.specs.declared.stage.ResolvedStage.{ResolvedStage}
use Rattle.imageconfig.specs.declared.config.Config.{Config}
use Rattle.evaluation.specs.Images.{with_origin, with_origins, many_codes}
use Rattle.evaluation.specs.Instruction.{after, action_in, due, fault}
use Rattle.imageconfig.specs.Stage.{unless_due}
use Rattle.evaluation.specs.Refusals.{all_from}
use Rattle.evaluation.specs.State.{start}
use Rattle.evaluation.specs.declared.stage.Progress.{Progress}
use Rattle.evaluation.specs.declared.walk.Walk.{Walk}

-- the instructions of a stage

-- the step of a line that does something to the tree
abbrev pub step_of : ℕ → Option Action → List Step
step_of line None = []
step_of line (Some action) = record { line = line; action = action } ∷ []

-- a stage so far, with one instruction more
abbrev pub with_instruction : Values → Values → Progress → ResolvedInstruction → Progress
with_instruction args outer p r = record {
  state = after args outer p.state r.instruction.kind;
  steps = p.steps ++ step_of r.instruction.line (action_in p.state r.instruction.kind r.origins);
  names = with_origins p.names r.origins;
}

-- the codes that are due for the line of an instruction after what its stage is so far: for what it says, and for the images that it names
abbrev pub line_codes : Values → Progress → ResolvedInstruction → Code → Bool
line_codes args p r code = due args p.state r.instruction.kind code || many_codes (with_origins p.names r.origins) code

-- an instruction of a stage after what the stage is so far: the line is refused with the least code that is due for it, and if none is due
-- but a variable is required that doesn't count, with R21
abbrev pub next_instruction : Values → Values → Progress → ResolvedInstruction → Result Progress Rejection
next_instruction args outer p r =
    unless_due (reason (line_codes args p r) (fault args p.state r.instruction.kind)) r.instruction.line (Ok (with_instruction args outer p r))

-- instructions of a stage, up to the first line that is refused
abbrev pub instructions_from : Values → Values → Result Progress Rejection → List ResolvedInstruction → Result Progress Rejection
instructions_from args outer so_far rs = all_from (next_instruction args outer) so_far rs

-- stages

-- what a stage begins with, after those before it: its FROM names what it begins with
abbrev pub begun : ImagesValue Config → Walk → ResolvedStage → Progress
begun images walk stage = record { state = start images walk.states stage.base; steps = []; names = with_origin walk.names stage.base }

-- the stages so far, with one more at whose end this is
abbrev pub with_stage : Walk → ResolvedStage → Progress → Walk
with_stage walk stage p = record {
  rows = walk.rows ++ Some (record { line = stage.line; base = stage.base; steps = p.steps }) ∷ [];
  states = walk.states ++ Some p.state ∷ [];
  names = p.names;
}

-- the same of what its instructions gave
abbrev pub with_ended : Walk → ResolvedStage → Result Progress Rejection → Result Walk Rejection
with_ended walk stage (Ok p) = Ok (with_stage walk stage p)
with_ended walk stage (Err refusal) = Err refusal

-- a needed stage after those before it
abbrev pub stage_from : Values → Values → ImagesValue Config → Walk → ResolvedStage → Result Walk Rejection
stage_from args outer images walk stage =
    unless_due (reason (many_codes (with_origin walk.names stage.base)) None) stage.line
    (with_ended walk stage (instructions_from args outer (Ok (begun images walk stage)) stage.instructions))

-- the stages so far, with one more that isn't needed: nothing is evaluated, and nothing refused
abbrev pub with_none : Walk → Walk
with_none walk = record { rows = walk.rows ++ None ∷ []; states = walk.states ++ None ∷ []; names = walk.names }

-- a stage after those before it, which is evaluated where it is needed
abbrev pub next_stage : Values → Values → ImagesValue Config → List Bool → Walk → ResolvedStage → Result Walk Rejection
next_stage args outer images needed walk stage =
    if is_marked needed (length walk.rows) then stage_from args outer images walk stage else Ok (with_none walk)

-- stages in the order of the file, up to the first line that is refused
abbrev pub stages_from : Values → Values → ImagesValue Config → List Bool → Result Walk Rejection → List ResolvedStage → Result Walk Rejection
stages_from args outer images needed so_far stages = all_from (next_stage args outer images needed) so_far stages
