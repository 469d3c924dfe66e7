use Rattle.std.proofs.Common.{ℕ, subst, arith}
use Rattle.std.proofs.lemmas.Bool.{both_ways}
use Rattle.board.specs.Job.{job_problem}
use Rattle.board.specs.Board.{board_problem}
use Rattle.board.specs.Legal.{IsAvailable, IsReady}
use Rattle.board.proofs.PlayLemmas.{replay-right}
use Rattle.board.proofs.SoundLemmas.{sound}
use Rattle.board.proofs.BoardLemmas.{run_of}
use Rattle.board.proofs.ReadyLemmas.{available-is, ready-from}
use Rattle.board.proofs.FrontierSteps.{ready-kept}
use Rattle.board.proofs.board.Board.has_more.Goals as goal

pub returns-clause-more : goal.returns-clause-more
returns-clause-more g c = λ yes.
    let b = c.self.inside in
    let problem = job_problem g.E.Executor.out b.job in
    let run = run_of b.history.items b.settled b.claims.items b.caches.holds in
    let is = c.self.invariant.0 in
    let agrees = (replay-right problem run (sound problem is.problem) is.replay).agrees in
    let some = c.has_any.ensures.some yes in
    let here = available-is problem run.history run.state agrees some.0 (c.self.invariant.2.available some.0 some.1) in
    subst (λ v. (vertex : ℕ) × IsAvailable (board_problem g.E.Executor.out v) v.run.history vertex) c.self.view_is (some.0, here)

pub returns-clause-none : goal.returns-clause-none
returns-clause-none g c = λ no.
    let b = c.self.inside in
    let problem = job_problem g.E.Executor.out b.job in
    let run = run_of b.history.items b.settled b.claims.items b.caches.holds in
    let is = c.self.invariant.0 in
    let agrees = (replay-right problem run (sound problem is.problem) is.replay).agrees in
    let none : (vertex : ℕ) → ¬ IsReady problem run.history vertex = λ vertex ready.
    both_ways _ (c.has_any.ensures.none no vertex (omega arith)) (ready-kept problem run.state b.frontier c.self.invariant.2 agrees.long vertex (ready-from problem run.history run.state agrees vertex ready)) in
    subst (λ v. (vertex : ℕ) → ¬ IsReady (board_problem g.E.Executor.out v) v.run.history vertex) c.self.view_is none
