use Rattle.evaluation.proofs.WalkFacts.{next_needed, next_left_out, next_stage_none, marked_at}
use Rattle.evaluation.proofs.walk.evaluate_next_stage.Goals as goal

pub returns-then-is_marked : goal.returns-then-is_marked
returns-then-is_marked c = next_needed _ _ _ _ _ c.args.walk c.args.stage _ (marked_at _ _ _ _ _ c.len.ensures c.is_marked.ensures c.if-is_marked.true) c.evaluate_needed_stage.ensures

pub returns-in-Ok : goal.returns-in-Ok
returns-in-Ok c = next_left_out _ _ _ _ _ c.args.walk c.args.stage c.in-Ok.more (marked_at _ _ _ _ _ c.len.ensures c.is_marked.ensures c.if-is_marked.false) c.in-Ok.ensures

pub returns-in-Err : goal.returns-in-Err
returns-in-Err c = next_stage_none _ _ _ _ _ c.args.walk c.args.stage
