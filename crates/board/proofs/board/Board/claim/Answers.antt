use Rattle.std.proofs.Common.{◌≡◌, Some, None, rules, subst}
use Rattle.board.specs.Job.{job_problem}
use Rattle.board.specs.Play.{claimable}
use Rattle.board.specs.Board.{board_problem}
use Rattle.board.specs.Legal.{IsNextClaim}
use Rattle.board.proofs.PlayLemmas.{replay-right}
use Rattle.board.proofs.SoundLemmas.{sound, next_claim-is}
use Rattle.board.proofs.BoardLemmas.{run_of}
use Rattle.board.proofs.board.Board.claim.Goals as goal

pub next_claim-next-requires-clause-long : goal.next_claim-next-requires-clause-long
next_claim-next-requires-clause-long g c κs within =
    let b = c.self.inside in
    let problem = job_problem g.E.Executor.out b.job in
    let is = c.self.invariant.0 in
    (replay-right problem (run_of b.history.items b.settled b.claims.items b.caches.holds) (sound problem is.problem) is.replay).agrees.long

pub returns-in-None-clause-next : goal.returns-in-None-clause-next
returns-in-None-clause-next g c =
    let b = c.self.inside in
    let problem = job_problem g.E.Executor.out b.job in
    let run = run_of b.history.items b.settled b.claims.items b.caches.holds in
    let none : None ≡ claimable problem run.state c.args.worker = search rules in
    subst (λ v. IsNextClaim (board_problem g.E.Executor.out v) v.run.history c.args.worker None) c.self.view_is (next_claim-is problem run c.args.worker None c.self.invariant.0.problem c.self.invariant.0.replay none)

pub returns-in_ok-claim-in-Some-clause-next : goal.returns-in_ok-claim-in-Some-clause-next
returns-in_ok-claim-in-Some-clause-next g c =
    let b = c.self.inside in
    let problem = job_problem g.E.Executor.out b.job in
    let run = run_of b.history.items b.settled b.claims.items b.caches.holds in
    let given : Some c.in_ok-claim-in-Some.claim.vertex ≡ claimable problem run.state c.args.worker = search rules in
    subst (λ v. IsNextClaim (board_problem g.E.Executor.out v) v.run.history c.args.worker (Some c.in_ok-claim-in-Some.claim.vertex)) c.self.view_is (next_claim-is problem run c.args.worker (Some c.in_ok-claim-in-Some.claim.vertex) c.self.invariant.0.problem c.self.invariant.0.replay given)
