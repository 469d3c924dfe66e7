use Rattle.build.specs.PrivateTelling.{TellsSolution, TellsPlan}
use Rattle.answering.proofs.TellFacts.{told_of}
use Rattle.build.proofs.TellFacts.{plan_told}
use Rattle.build.proofs.telling.tell_plan.Goals as goal

pub returns-in-Ok-clause-told : goal.returns-in-Ok-clause-told
returns-in-Ok-clause-told g c =
    let out = g.E.Executor.out c.args.executor.now in
    told_of (TellsSolution c.config.result.now c.in-Ok.solution) (TellsPlan out c.args.plan.now)
    (λ told is. plan_told out c.args.plan.now c.config.result.now c.in-Ok.solution told c.in-Ok.ensures.solution c.config.ensures is) _ _ _ _ c.tell_solution-ended.result c.tell_solution-ended.ensures
