use Rattle.std.proofs.Common.{◌≡◌, Ok, sym, subst}
use Rattle.board.specs.Leaving.{IsLeftFor}
use Rattle.board.specs.Claim.{IsResult, IsGivenBack}
use Rattle.board.specs.Job.{job_problem}
use Rattle.solver.proofs.RecallLemmas.{taken-given, ok-more, stays-left}
use Rattle.solver.proofs.recalling.run_recalled.Goals as goal

pub returns-in-Some-2-clause-value : goal.returns-in-Some-2-clause-value
returns-in-Some-2-clause-value g c =
    let problem = job_problem g.E.Executor.out c.args.job.now in
    let claim = c.args.claim.now in
    let tree = c.in-Some-2.tree.now in
    let is = rw c.in-Some-2.is at c.in_ok-tree.ensures.value in
    ok-more (λ ran. ran.value ≡ Ok tree) (λ ran. IsResult problem claim ran.value) c.recalled.result (λ ran e. subst (IsResult problem claim) (sym e) is) c.recalled.ensures.value

pub returns-in-Some-2-clause-given : goal.returns-in-Some-2-clause-given
returns-in-Some-2-clause-given g c =
    let problem = job_problem g.E.Executor.out c.args.job.now in
    let claim = c.args.claim.now in
    ok-more (λ ran. ran.given.items ≡ claim.caches) (λ ran. IsGivenBack problem claim ran.given.items) c.recalled.result (λ ran e. subst (IsGivenBack problem claim) (sym e) (taken-given problem claim c.requires.of)) c.recalled.ensures.given

pub returns-in-Some-2-clause-left : goal.returns-in-Some-2-clause-left
returns-in-Some-2-clause-left g c =
    let problem = job_problem g.E.Executor.out c.args.job.now in
    let claim = c.args.claim.now in
    let leaves = g.E.Executor.leaves c.args.job.now.executor in
    let known = rw c.in-Some-2.is at c.in_ok-tree.ensures.known in
    let stay = stays-left g.N.Numbering.knows leaves problem claim c.requires.stays known in
    ok-more (λ ran. ran.given.items ≡ claim.caches) (λ ran. IsLeftFor leaves problem claim ran.given.items) c.recalled.result (λ ran e. subst (IsLeftFor leaves problem claim) (sym e) stay) c.recalled.ensures.given
