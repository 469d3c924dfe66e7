use Rattle.std.specs.FinMap.{get}
use Rattle.scopes.specs.Scope.{value_in}
use Rattle.evaluation.specs.PrivateStage.{IsDone}
use Rattle.evaluation.proofs.InstructionFacts.{reported_left, reported_both}
use Rattle.evaluation.proofs.instruction.evaluate_instruction.Goals as goal

pub returns-in-Ok : goal.returns-in-Ok
unfolding IsDone
returns-in-Ok c =
    reported_both (get c.args.given.now.args.now) (value_in c.args.given.now.outer.now) c.args.state c.in-Ok.state c.args.instruction.kind c.args.origins c.args.instruction.line c.finish.result
    c.in-Ok.ensures c.finish.ensures

pub returns-in-Err : goal.returns-in-Err
unfolding IsDone
returns-in-Err c =
    reported_left (get c.args.given.now.args.now) (value_in c.args.given.now.outer.now) c.args.state c.args.instruction.kind c.args.origins c.args.instruction.line c.in-Err.fault c.in-Err.ensures
