use Rattle.std.proofs.Common.{◌≡◌, [], sym, subst}
use Rattle.board.specs.Board.{board_problem, AreContents, AreLeft}
use Rattle.board.specs.Job.{job_problem}
use Rattle.board.specs.Leaving.{AreLeftByRuns, GivesBackWhatIsLeft}
use Rattle.board.proofs.SoundLemmas.{idle-free, sound}
use Rattle.board.proofs.PlayLemmas.{replay-right}
use Rattle.board.proofs.BoardLemmas.{run_of}
use Rattle.board.proofs.board.Board.into_caches.Goals as goal

pub returns-clause-idle : goal.returns-clause-idle
returns-clause-idle g c = λ none.
    let b = c.self.inside in
    idle-free (job_problem g.E.Executor.out b.job) (run_of b.history.items b.settled b.claims.items b.caches.holds) c.self.invariant.0.problem c.self.invariant.0.replay (subst (λ v. v.run.state.claims ≡ []) (sym c.self.view_is) none)

pub returns-clause-contents : goal.returns-clause-contents
returns-clause-contents g c = subst (λ v. AreContents (board_problem g.E.Executor.out v) v.run.history v.first v.contents) c.self.view_is c.self.invariant.0.contents

pub returns-clause-left : goal.returns-clause-left
unfolding AreLeft
returns-clause-left g c =
    let b = c.self.inside in
    let is = c.self.invariant.0 in
    let problem = job_problem g.E.Executor.out b.job in
    let run = run_of b.history.items b.settled b.claims.items b.caches.holds in
    subst (λ v. AreLeft (board_problem g.E.Executor.out v) v.first b.caches.contents) c.self.view_is (run.history, (replay-right problem run (sound problem is.problem) is.replay).legal, is.contents)

pub returns-clause-runs : goal.returns-clause-runs
unfolding AreLeftByRuns
returns-clause-runs g c = λ gives.
    let b = c.self.inside in
    let is = c.self.invariant.0 in
    let problem = job_problem g.E.Executor.out b.job in
    let run = run_of b.history.items b.settled b.claims.items b.caches.holds in
    let given : GivesBackWhatIsLeft (g.E.Executor.leaves b.job.executor) problem b.first.items b.history.items = subst (λ v. GivesBackWhatIsLeft (g.E.Executor.leaves v.job.executor) (board_problem g.E.Executor.out v) v.first v.run.history) (sym c.self.view_is) gives in
    subst (λ v. AreLeftByRuns (g.E.Executor.leaves v.job.executor) (board_problem g.E.Executor.out v) v.first b.caches.contents) c.self.view_is (run.history, (replay-right problem run (sound problem is.problem) is.replay).legal, is.contents, given)
