use Rattle.std.proofs.Common.{sym, ◌∙◌}
use Rattle.evaluation.proofs.StepFacts.{put_many, put_done, put_none}
use Rattle.evaluation.proofs.stage.advance_unless_many.Goals as goal

pub returns-then-are_many : goal.returns-then-are_many
returns-then-are_many c = put_many _ _ _ _ _ c.many_images.ensures (sym c.are_many.ensures ∙ c.if-are_many.true)

pub returns-in-Ok : goal.returns-in-Ok
returns-in-Ok c = put_done _ _ _ _ c.in-Ok.progress (sym c.are_many.ensures ∙ c.if-are_many.false) c.in-Ok.ensures

pub returns-in-Err : goal.returns-in-Err
returns-in-Err c = put_none _ _ _ _
