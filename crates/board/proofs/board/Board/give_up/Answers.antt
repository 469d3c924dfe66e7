use Rattle.std.proofs.Common.{◌≡◌, [], ◌∷◌, ◌++◌, Some, arith, rules, sym, subst}
use Rattle.board.specs.Play.{claim_of, Abandon}
use Rattle.board.specs.Board.{IsStep}
use Rattle.board.specs.Job.{job_problem}
use Rattle.board.proofs.BoardLemmas.{board_of, run_of, abandon-gone}
use Rattle.board.specs.declared.event.Happened.TheVariants.{Abandoned}
use Rattle.board.specs.Leaving.{GivesBackWhatIsLeft}
use Rattle.board.proofs.LeavingLemmas.{given-push}
use Rattle.board.proofs.FrontierLemmas.{replay-alone}
use Rattle.board.proofs.FrontierSteps.{frontier-abandon}
use Rattle.board.proofs.board.Board.give_up.Goals as goal

pub restore-requires : goal.restore-requires
restore-requires g c =
    let b = c.self.inside in
    let claim = c.args.claim in
    let vertex_out : claim_of claim.worker b.claims.items ≡ Some claim = subst (λ v. claim_of claim.worker v.run.state.claims ≡ Some claim) (sym c.self.view_is) c.requires in
    let alone = replay-alone (job_problem g.E.Executor.out b.job) (run_of b.history.items b.settled b.claims.items b.caches.holds) claim c.self.invariant.0.problem c.self.invariant.0.replay vertex_out in
    omega (arith, alone.vertex_within, c.self.invariant.2.available_long)

pub invariant_of-self : goal.invariant_of-self
invariant_of-self g c =
    let b = c.self.inside in
    let claim = c.args.claim in
    let vertex_out : claim_of claim.worker b.claims.items ≡ Some claim = subst (λ v. claim_of claim.worker v.run.state.claims ≡ Some claim) (sym c.self.view_is) c.requires in
    let gone = abandon-gone g.E.Executor.out b.job b.first.items b.caches c.leave.new.self b.history.items c.add.new.list.items b.settled b.claims.items c.drop_claim.new.claims.items claim c.self.invariant.0 vertex_out (search rules) (search rules) c.leave.ensures.after in
    let fewer = c.drop_claim.ensures.fewer claim vertex_out in
    let alone = replay-alone (job_problem g.E.Executor.out b.job) (run_of b.history.items b.settled b.claims.items b.caches.holds) claim c.self.invariant.0.problem c.self.invariant.0.replay vertex_out in
    let left = frontier-abandon b.job.graph.vertices b.job.graph.places b.settled b.claims.items c.drop_claim.new.claims.items b.frontier c.restore.new.self claim c.self.invariant.2 alone c.restore.ensures (search rules) in
    (gone.board, omega (arith, fewer, c.self.invariant.1, c.add.ensures.len, c.add.ensures.capacity), left)

pub returns-clause-run : goal.returns-clause-run
returns-clause-run g c =
    let b = c.self.inside in
    let claim = c.args.claim in
    let vertex_out : claim_of claim.worker b.claims.items ≡ Some claim = subst (λ v. claim_of claim.worker v.run.state.claims ≡ Some claim) (sym c.self.view_is) c.requires in
    let gone = abandon-gone g.E.Executor.out b.job b.first.items b.caches c.leave.new.self b.history.items c.add.new.list.items b.settled b.claims.items c.drop_claim.new.claims.items claim c.self.invariant.0 vertex_out (search rules) (search rules) c.leave.ensures.after in
    subst (λ v. IsStep g.E.Executor.out (Abandon claim.worker) v (board_of b.job b.first.items c.leave.new.self c.add.new.list.items b.settled c.drop_claim.new.claims.items)) c.self.view_is gone.goes

pub returns-clause-left : goal.returns-clause-left
returns-clause-left g c = λ gives.
    let b = c.self.inside in
    let claim = c.args.claim in
    let leaves = g.E.Executor.leaves b.job.executor in
    let problem = job_problem g.E.Executor.out b.job in
    let before : GivesBackWhatIsLeft leaves problem b.first.items b.history.items = subst (λ v. GivesBackWhatIsLeft (g.E.Executor.leaves v.job.executor) (job_problem g.E.Executor.out v.job) v.first v.run.history) (sym c.self.view_is) gives in
    let added : c.add.new.list.items ≡ b.history.items ++ Abandoned claim.worker claim.vertex ∷ [] = search rules in
    given-push leaves problem b.first.items b.history.items c.add.new.list.items (Abandoned claim.worker claim.vertex) added before tt
