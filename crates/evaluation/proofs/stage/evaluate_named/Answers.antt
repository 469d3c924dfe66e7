use Rattle.std.proofs.Common.{ℕ, subst}
use Rattle.evaluation.specs.PrivateStage.{IsPut}
use Rattle.evaluation.proofs.StepFacts.{stepped_reported, stepped_put}
use Rattle.evaluation.proofs.stage.evaluate_named.Goals as goal

pub returns-in-Ok : goal.returns-in-Ok
returns-in-Ok c = stepped_put _ _ _ _ _ _ _ _ c.in-Ok.done _ c.in-Ok.ensures
    (subst (λ (line : ℕ). IsPut c.args.progress.steps c.args.progress.names line c.in-Ok.done c.advance_unless_many.result) c.line-line.ensures c.advance_unless_many.ensures)

pub returns-in-Err : goal.returns-in-Err
returns-in-Err c = stepped_reported _ _ _ _ _ _ _ _ c.in-Err.fault _ c.in-Err.ensures c.fault_with-fault.ensures
