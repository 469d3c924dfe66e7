-- The lines of the stages that are needed, each judged where it stands: after all lines before it, whatever is due for those. Evaluating
-- goes no further than the first line that is refused; here each line has its codes, and what is against its texts (own).
use Rattle.std.specs.Prelude.{◌≡◌, ◌<◌, ◌≤◌, ◌⊎◌, ℕ, Bool, true, List, [], ◌∷◌, ◌++◌, Option, None, Contains, length, slice_get, if◌then◌else◌}
use Rattle.std.specs.List.{All}
use Rattle.plain.specs.Marks.{is_marked}
use Rattle.plain.specs.declared.refusal.Code.{Code}
use Rattle.expand.specs.Reasons.{reason_number}
use Rattle.expand.specs.declared.fault.Unexpanded.{Unexpanded}
use Rattle.expand.specs.declared.reason.Reason.{Reason}
use Rattle.expand.specs.declared.reason.Rejection.{Rejection}
use Rattle.instructions.specs.Reason.{IsReason}
use Rattle.plans.specs.Images.{ImagesValue}
use Rattle.scopes.specs.Evaluate.{Values}
use Rattle.scopes.specs.Scope.{value_in}
use Rattle.stages.specs.Table.{TableValue}
use Rattle.stages.specs.declared.stage.ResolvedInstruction.{ResolvedInstruction}
use Rattle.stages.specs.declared.stage.ResolvedStage.{ResolvedStage}
use Rattle.imageconfig.specs.declared.config.Config.{Config}
use Rattle.evaluation.specs.Evaluated.{no_stage}
use Rattle.evaluation.specs.Images.{with_origin, many_codes}
use Rattle.evaluation.specs.Instruction.{fault}
use Rattle.evaluation.specs.Stages.{line_codes, with_instruction, begun, with_stage, with_none}
use Rattle.evaluation.specs.declared.stage.Progress.{Progress}
use Rattle.evaluation.specs.declared.walk.Walk.{Walk}

-- a line, which codes are due for it, and why a text of it has no value, if one has none
pub record JudgedLine : Type 0 where
  pub line : ℕ
  pub codes : Code → Bool
  pub fault : Option Unexpanded

-- the line of an instruction, after what its stage is so far
abbrev pub judged : Values → Progress → ResolvedInstruction → JudgedLine
judged args p r = record { line = r.instruction.line; codes = line_codes args p r; fault = fault args p.state r.instruction.kind }

-- the lines of instructions one after another
abbrev pub lines_judged : Values → Values → Progress → List ResolvedInstruction → List JudgedLine
lines_judged args outer p [] = []
lines_judged args outer p (r ∷ rs) = judged args p r ∷ lines_judged args outer (with_instruction args outer p r) rs

-- what a stage is after all of its instructions
abbrev pub after_all : Values → Values → Progress → List ResolvedInstruction → Progress
after_all args outer p [] = p
after_all args outer p (r ∷ rs) = after_all args outer (with_instruction args outer p r) rs

-- the lines of a needed stage: that of its FROM, which may name one image too many, and those of its instructions
abbrev pub stage_judged : Values → Values → ImagesValue Config → Walk → ResolvedStage → List JudgedLine
stage_judged args outer images walk stage =
    record { line = stage.line; codes = many_codes (with_origin walk.names stage.base); fault = None } ∷ lines_judged args outer (begun images walk stage) stage.instructions

-- the stages so far with one more, which is left out where it isn't needed
abbrev pub after_stage : Values → Values → ImagesValue Config → List Bool → Walk → ResolvedStage → Walk
after_stage args outer images needed walk stage =
    if is_marked needed (length walk.rows) then with_stage walk stage (after_all args outer (begun images walk stage) stage.instructions) else with_none walk

-- the lines of the needed ones among some stages
abbrev pub stages_judged : Values → Values → ImagesValue Config → List Bool → Walk → List ResolvedStage → List JudgedLine
stages_judged args outer images needed walk [] = []
stages_judged args outer images needed walk (stage ∷ stages) =
    (if is_marked needed (length walk.rows) then stage_judged args outer images walk stage else []) ++ stages_judged args outer images needed (after_stage args outer images needed walk stage) stages

-- the lines of the stages of a table that are needed
abbrev pub needed_lines : Values → ImagesValue Config → List Bool → TableValue → List JudgedLine
needed_lines args images needed table = stages_judged args (value_in table.outer) images needed no_stage table.stages

-- there is no reason to refuse a line
abbrev pub IsFree : JudgedLine → Type 0
IsFree j = (reason : Reason) → IsReason j.codes j.fault reason → ⊥

-- a refusal comes before this reason to refuse this line, or is it: the lines are compared first
abbrev pub IsUpTo : Rejection → ℕ → Reason → Type 0
IsUpTo refusal line reason = (refusal.line < line) ⊎ ((refusal.line ≡ line) × (reason_number refusal.reason ≤ reason_number reason))

-- of all reasons to refuse these lines a refusal is the least by line, and on a line by number (own)
pub record IsLeastRefusal (lines : List JudgedLine) (refusal : Rejection) : Type 0 where
  pub is_due : (j : JudgedLine) × Contains lines j × (j.line ≡ refusal.line) × IsReason j.codes j.fault refusal.reason
  pub least : All (λ (j : JudgedLine). (reason : Reason) → IsReason j.codes j.fault reason → IsUpTo refusal j.line reason) lines

-- stages are as many as others, and those that are marked are the same ones
pub record SameWhereMarked (marks : List Bool) (stages others : List ResolvedStage) : Type 0 where
  pub long : length stages ≡ length others
  pub same : (number : ℕ) → is_marked marks number ≡ true → slice_get stages number ≡ slice_get others number
