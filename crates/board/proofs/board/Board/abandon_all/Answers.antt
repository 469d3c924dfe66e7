use Rattle.std.proofs.Common.{◌≡◌, [], Some, rules, refl, subst, ◌∙◌}
use Rattle.board.specs.Job.{job_problem}
use Rattle.board.specs.Play.{claim_of}
use Rattle.board.specs.Clearing.{IsLeastWorker, no_claim}
use Rattle.board.specs.Board.{board_problem}
use Rattle.board.proofs.BoardLemmas.{run_of, least-held, clear-step}
use Rattle.board.proofs.board.Board.abandon_all.Goals as goal

pub give_up-requires-after_bounds : goal.give_up-requires-after_bounds
give_up-requires-after_bounds g c κs within =
    let b = c.self.inside in
    let problem = job_problem g.E.Executor.out b.job in
    let out = least-held problem (run_of b.history.items b.settled b.claims.items b.caches.holds) c.as_slice.result.now c.in-Some.claim c.self.invariant.0.problem c.self.invariant.0.replay c.as_slice.ensures.value c.in-Some.ensures.found in
    subst (λ v. claim_of c.in-Some.claim.worker v.run.state.claims ≡ Some c.in-Some.claim) c.self.view_is out.0

pub loop-claim-smaller : goal.loop-claim-smaller
loop-claim-smaller g c =
    let b = c.self.inside in
    let problem = job_problem g.E.Executor.out b.job in
    let out = least-held problem (run_of b.history.items b.settled b.claims.items b.caches.holds) c.as_slice.result.now c.in-Some.claim c.self.invariant.0.problem c.self.invariant.0.replay c.as_slice.ensures.value c.in-Some.ensures.found in
    let here = subst (λ v. claim_of c.in-Some.claim.worker v.run.state.claims ≡ Some c.in-Some.claim) c.self.view_is out.0 in
    let least = subst (λ v. IsLeastWorker v.run.state.claims c.in-Some.claim) c.self.view_is out.1 in
    let old = board_problem g.E.Executor.out c.loop-claim.self in
    (clear-step old old c.loop-claim.self.run c.give_up.new.self.run c.in-Some.claim refl here least c.give_up.ensures.run.run).0

pub loop-claim-preserved : goal.loop-claim-preserved
loop-claim-preserved g c =
    let b = c.self.inside in
    let problem = job_problem g.E.Executor.out b.job in
    let out = least-held problem (run_of b.history.items b.settled b.claims.items b.caches.holds) c.as_slice.result.now c.in-Some.claim c.self.invariant.0.problem c.self.invariant.0.replay c.as_slice.ensures.value c.in-Some.ensures.found in
    let here = subst (λ v. claim_of c.in-Some.claim.worker v.run.state.claims ≡ Some c.in-Some.claim) c.self.view_is out.0 in
    let least = subst (λ v. IsLeastWorker v.run.state.claims c.in-Some.claim) c.self.view_is out.1 in
    let was = c.loop-claim.invariant in
    let same : board_problem g.E.Executor.out c.loop-claim.self ≡ board_problem g.E.Executor.out c.args.self.now = rw was.job refl in
    let step = clear-step (board_problem g.E.Executor.out c.args.self.now) (board_problem g.E.Executor.out c.loop-claim.self) c.loop-claim.self.run c.give_up.new.self.run c.in-Some.claim same here least c.give_up.ensures.run.run in
    record {
      job = c.give_up.ensures.run.job ∙ was.job;
      first = c.give_up.ensures.run.first ∙ was.first;
      cleared = λ after rest. was.cleared after (step.1 after rest);
      left = λ gives. c.give_up.ensures.left (was.left gives);
    }

pub returns-clause-run : goal.returns-clause-run
returns-clause-run g c =
    let none : c.loop-claim.self.run.state.claims ≡ [] = search rules in
    c.loop-claim.invariant.cleared c.loop-claim.self.run (no_claim c.loop-claim.self.run none)
