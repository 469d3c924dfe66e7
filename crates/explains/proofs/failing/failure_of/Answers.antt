use Rattle.explains.proofs.FailureFacts.{failure_of}
use Rattle.explains.proofs.failing.failure_of.Goals as goal

pub returns-in-Ok : goal.returns-in-Ok
returns-in-Ok g c = failure_of (g.E.Executor.out c.args.executor.now) c.args.asked.evaluated c.in-Ok.plan c.failure_in-failure.result c.in-Ok.ensures.tells c.failure_in-failure.ensures
