use Rattle.std.proofs.Common.{subst}
use Rattle.std.specs.Prelude.{IfOk}
use Rattle.board.specs.Leaving.{IsLeftFor}
use Rattle.board.proofs.LeavingLemmas.{left-same}
use Rattle.workers.proofs.working.keep.Goals as goal

pub returns-in-Ok-Some-clause-left : goal.returns-in-Ok-Some-clause-left
returns-in-Ok-Some-clause-left g c =
    let leaves = g.E.Executor.leaves c.args.tools.now.job.now.executor in
    let problem = g.J.Case.problem in
    let claim = c.args.claim.now in
    let ran = subst (λ r. IfOk r (λ ran. IsLeftFor leaves problem claim ran.given.items)) c.in-Ok.is c.requires.left in
    left-same leaves g.J.Case.leaves problem claim c.in-Ok.field-0.given.items c.requires.leaves ran
