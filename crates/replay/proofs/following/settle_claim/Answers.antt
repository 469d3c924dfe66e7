use Rattle.std.proofs.Common.{◌≡◌, None, refl, ap, subst, sym, ◌∙◌}
use Rattle.board.specs.Board.{board_problem}
use Rattle.board.specs.Play.{Settle, claim_of}
use Rattle.board.specs.Job.{job_problem}
use Rattle.board.specs.Claim.{IsClaim, IsGivenBack}
use Rattle.board.specs.Leaving.{IsLeftFor}
use Rattle.replay.specs.PrivateFollowing.{Applies}
use Rattle.replay.proofs.FollowLemmas.{taken-out, taken-is, taken-settle, settle-applies, settle-left_out}
use Rattle.board.specs.declared.event.Event.TheVariants as event
use Rattle.replay.proofs.LentLemmas.{taken-lent, fewer-lent}
use Rattle.replay.proofs.following.settle_claim.Goals as goal

pub run-requires-after_bounds : goal.run-requires-after_bounds
run-requires-after_bounds g c κs within =
    let b = c.args.board.now in
    let problem = board_problem g.E.Executor.out b in
    subst (λ job. IsClaim (job_problem g.E.Executor.out job) c.in-Some.claim) (sym c.job.ensures) (taken-is problem b.run.state.claims c.args.worker c.args.out.now.items c.take_claim.new.out.items c.in-Some.claim c.requires.out c.in-Some.ensures.found)

pub settle-requires-clause-out : goal.settle-requires-clause-out
settle-requires-clause-out g c κs within =
    let b = c.args.board.now in
    let problem = board_problem g.E.Executor.out b in
    taken-out problem b.run.state.claims c.args.worker c.args.out.now.items c.take_claim.new.out.items c.in-Some.claim c.requires.out c.in-Some.ensures.found

pub settle-requires-clause-of : goal.settle-requires-clause-of
settle-requires-clause-of g c κs within =
    let b = c.args.board.now in
    let problem = board_problem g.E.Executor.out b in
    taken-is problem b.run.state.claims c.args.worker c.args.out.now.items c.take_claim.new.out.items c.in-Some.claim c.requires.out c.in-Some.ensures.found

pub returns-in_default-clause-applies : goal.returns-in_default-clause-applies
returns-in_default-clause-applies g c =
    let b = c.args.board.now in
    let none : claim_of c.args.worker b.run.state.claims ≡ None = ap (claim_of c.args.worker) c.requires.out.all ∙ c.in_default.ensures.none in
    settle-left_out (board_problem g.E.Executor.out b) b.run c.args.worker c.history-known.ensures.problem c.history-known.ensures.replay none

pub returns-in-Ok-settle-clause-applies : goal.returns-in-Ok-settle-clause-applies
returns-in-Ok-settle-clause-applies g c =
    let b = c.args.board.now in
    let problem = board_problem g.E.Executor.out b in
    let out = taken-out problem b.run.state.claims c.args.worker c.args.out.now.items c.take_claim.new.out.items c.in-Some.claim c.requires.out c.in-Some.ensures.found in
    let e = c.in-Ok-settle.ensures.run.run in
    let same : job_problem g.E.Executor.out c.job.result.now ≡ problem = ap (job_problem g.E.Executor.out) c.job.ensures in
    let count : IsGivenBack problem c.in-Some.claim c.in-Ok.ran.given.items = subst (λ p. IsGivenBack p c.in-Some.claim c.in-Ok.ran.given.items) same c.in-Ok.ensures.given in
    subst (λ w. Applies problem (event.Settle w) b.run.history c.settle.new.self.run.history) c.in-Some.ensures.found.by (settle-applies problem b.run c.settle.new.self.run c.in-Some.claim _ c.history-known.ensures.problem c.history-known.ensures.replay out count e)

pub returns-in-Ok-settle-clause-out : goal.returns-in-Ok-settle-clause-out
returns-in-Ok-settle-clause-out g c =
    let b = c.args.board.now in
    let problem = board_problem g.E.Executor.out b in
    let same : job_problem g.E.Executor.out c.job.result.now ≡ problem = ap (job_problem g.E.Executor.out) c.job.ensures in
    let count : IsGivenBack problem c.in-Some.claim c.in-Ok.ran.given.items = subst (λ p. IsGivenBack p c.in-Some.claim c.in-Ok.ran.given.items) same c.in-Ok.ensures.given in
    taken-settle problem b.run c.settle.new.self.run c.args.worker c.in-Ok.ran.given.items c.args.out.now.items c.take_claim.new.out.items c.in-Some.claim c.requires.out c.in-Some.ensures.found count c.in-Ok-settle.ensures.run.run

-- the run left what is given back, of what its worker was lent
pub returns-in-Ok-settle-clause-left : goal.returns-in-Ok-settle-clause-left
returns-in-Ok-settle-clause-left g c =
    let b = c.args.board.now in
    let claim = c.in-Some.claim in
    let given = c.in-Ok.ran.given.items in
    let lent = taken-lent (board_problem g.E.Executor.out b) b.first b.run.history c.args.worker c.args.out.now.items c.take_claim.new.out.items claim c.requires.lent c.in-Some.ensures.found in
    let left : IsLeftFor (g.E.Executor.leaves b.job.executor) (board_problem g.E.Executor.out b) claim given =
    subst (λ job. IsLeftFor (g.E.Executor.leaves job.executor) (job_problem g.E.Executor.out job) claim given) c.job.ensures c.in-Ok.ensures.left in
    c.in-Ok-settle.ensures.left lent left

pub returns-in-Ok-settle-clause-lent : goal.returns-in-Ok-settle-clause-lent
returns-in-Ok-settle-clause-lent g c =
    let b = c.args.board.now in
    let now = c.settle.new.self in
    fewer-lent (board_problem g.E.Executor.out b) b.first now.first b.run now.run (Settle c.in-Some.claim.worker c.in-Ok.ran.given.items) c.args.worker c.args.out.now.items c.take_claim.new.out.items c.in-Some.claim c.requires.out c.requires.lent c.in-Some.ensures.found refl c.in-Ok-settle.ensures.run.run c.in-Ok-settle.ensures.run.first
