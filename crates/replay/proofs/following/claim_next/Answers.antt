use Rattle.std.proofs.Common.{◌≡◌, ◌∷◌, [], ◌++◌, Some, rules, ap, subst, sym}
use Rattle.board.specs.Board.{board_problem}
use Rattle.board.specs.Play.{claimable}
use Rattle.board.specs.Claim.{IsClaim}
use Rattle.board.specs.Job.{job_problem}
use Rattle.board.specs.Leaving.{IsLent}
use Rattle.board.specs.Legal.{IsNextClaim}
use Rattle.replay.specs.PrivateFollowing.{AreOut}
use Rattle.replay.proofs.FollowLemmas.{kept-claim, next-claimable, claim-applies}
use Rattle.replay.proofs.LentLemmas.{claim-lent}
use Rattle.replay.proofs.following.claim_next.Goals as goal

pub returns-clause-applies : goal.returns-clause-applies
returns-clause-applies g c =
    let b = c.args.board.now in
    claim-applies (board_problem g.E.Executor.out b) b.run c.claim.new.self.run c.args.worker c.history-known.ensures.problem c.history-known.ensures.replay c.in_ok-claimed.ensures.run.run

pub returns-in_default-clause-applies : goal.returns-in_default-clause-applies
returns-in_default-clause-applies g c =
    let b = c.args.board.now in
    claim-applies (board_problem g.E.Executor.out b) b.run c.claim.new.self.run c.args.worker c.history-known.ensures.problem c.history-known.ensures.replay c.in_ok-claimed.ensures.run.run

pub returns-clause-out : goal.returns-clause-out
returns-clause-out g c =
    let b = c.args.board.now in
    let problem = board_problem g.E.Executor.out b in
    let claim = c.in-Some.claim in
    let next : IsNextClaim problem b.run.history c.args.worker (Some claim.vertex) = search rules in
    let can : claimable problem b.run.state c.args.worker ≡ Some claim.vertex = next-claimable problem b.run c.args.worker claim.vertex c.history-known.ensures.problem c.history-known.ensures.replay next in
    let by : claim.worker ≡ c.args.worker = search rules in
    let given : IsClaim (board_problem g.E.Executor.out c.claim.new.self) claim = search rules in
    let same : board_problem g.E.Executor.out c.claim.new.self ≡ problem = ap (job_problem g.E.Executor.out) c.in_ok-claimed.ensures.run.job in
    let of : IsClaim problem claim = subst (λ p. IsClaim p claim) same given in
    let kept = kept-claim problem b.run c.claim.new.self.run c.args.out.now.items c.args.worker claim c.requires.out c.in_ok-claimed.ensures.run.run can by (search rules) of in
    let items : c.add.new.list.items ≡ c.args.out.now.items ++ claim ∷ [] = search rules in
    subst (AreOut problem c.claim.new.self.run.state.claims) (sym items) kept

pub returns-clause-lent : goal.returns-clause-lent
returns-clause-lent g c =
    let b = c.args.board.now in
    let now = c.claim.new.self in
    let problem = board_problem g.E.Executor.out b in
    let claim = c.in-Some.claim in
    let next : IsNextClaim problem b.run.history c.args.worker (Some claim.vertex) = search rules in
    let can : claimable problem b.run.state c.args.worker ≡ Some claim.vertex = next-claimable problem b.run c.args.worker claim.vertex c.history-known.ensures.problem c.history-known.ensures.replay next in
    let given : IsLent (board_problem g.E.Executor.out now) now.first now.run.history claim = search rules in
    let same : board_problem g.E.Executor.out now ≡ problem = ap (job_problem g.E.Executor.out) c.in_ok-claimed.ensures.run.job in
    let lent : IsLent problem now.first now.run.history claim = subst (λ p. IsLent p now.first now.run.history claim) same given in
    let items : c.add.new.list.items ≡ c.args.out.now.items ++ claim ∷ [] = search rules in
    claim-lent problem b.first now.first b.run now.run c.args.out.now.items c.add.new.list.items c.args.worker claim c.requires.out c.requires.lent c.in_ok-claimed.ensures.run.run c.in_ok-claimed.ensures.run.first can lent items
