use Rattle.std.proofs.Common.{◌∙◌, ℕ, ap, sym, subst}
use Rattle.plans.specs.Plan.{Problem}
use Rattle.board.specs.Board.{AreLeft, board_problem}
use Rattle.board.specs.Leaving.{AreLeftByRuns, AreLeftAtEnd}
use Rattle.board.specs.Legal.{IsReady}
use Rattle.board.specs.Problem.{values_in}
use Rattle.board.proofs.LeavingLemmas.{left_by_runs-same, left-at-end, left-at-end-same}
use Rattle.memo.proofs.GrowLemmas.{grows-same}
use Rattle.solver.specs.Recall.{leaves_or_stays}
use Rattle.solver.proofs.SolutionLemmas.{left-same, runs-same}
use Rattle.workers.proofs.solving.solved.Goals as goal

-- where there are no cells nothing has happened
pub returns-in_default-clause-left : goal.returns-in_default-clause-left
returns-in_default-clause-left g c = left-same g.J.Case.problem g.J.Case.first c.unsolved.result.caches.contents (ap (λ store. store.contents) c.unsolved.ensures.caches ∙ c.requires.first)

pub returns-in_default-clause-runs : goal.returns-in_default-clause-runs
returns-in_default-clause-runs g c = runs-same g.J.Case.leaves g.J.Case.problem g.J.Case.first c.unsolved.result.caches.contents (ap (λ store. store.contents) c.unsolved.ensures.caches ∙ c.requires.first)

pub returns-in_default-clause-memo : goal.returns-in_default-clause-memo
returns-in_default-clause-memo g c = grows-same c.args.memo.now

pub returns-in_default-new-clause-left : goal.returns-in_default-new-clause-left
returns-in_default-new-clause-left g c = left-same g.J.Case.problem g.J.Case.first c.unsolved-in_default-new.result.caches.contents (ap (λ store. store.contents) c.unsolved-in_default-new.ensures.caches ∙ c.requires.first)

pub returns-in_default-new-clause-runs : goal.returns-in_default-new-clause-runs
returns-in_default-new-clause-runs g c = runs-same g.J.Case.leaves g.J.Case.problem g.J.Case.first c.unsolved-in_default-new.result.caches.contents (ap (λ store. store.contents) c.unsolved-in_default-new.ensures.caches ∙ c.requires.first)

pub returns-in_default-new-clause-memo : goal.returns-in_default-new-clause-memo
returns-in_default-new-clause-memo g c = grows-same c.args.memo.now

pub returns-clause-memo : goal.returns-clause-memo
returns-clause-memo g c = grows-same c.args.memo.now

-- what the memo gets is of the board's problem
pub remember-requires-clause-executor : goal.remember-requires-clause-executor
remember-requires-clause-executor g c κs within =
    c.requires.executor ∙ (c.requires.named.same_out ∙ ap (λ (p : Problem). p.out) (sym c.in-Ok-outcome.ensures.problem))

pub remember-requires-clause-values : goal.remember-requires-clause-values
remember-requires-clause-values g c κs within = c.requires.named.same_values ∙ ap values_in (sym c.in-Ok-outcome.ensures.problem)

pub returns-in-Ok-outcome-clause-left : goal.returns-in-Ok-outcome-clause-left
returns-in-Ok-outcome-clause-left g c =
    let named = subst (λ p. AreLeft p c.in-Ok-outcome.field-0.board.first c.into_caches.result.contents) c.in-Ok-outcome.ensures.problem c.into_caches.ensures.left in
    subst (λ f. AreLeft g.J.Case.problem f c.into_caches.result.contents) c.in-Ok-outcome.ensures.first named

pub returns-in-Ok-outcome-clause-runs : goal.returns-in-Ok-outcome-clause-runs
returns-in-Ok-outcome-clause-runs g c =
    let board = c.in-Ok-outcome.field-0.board in
    let contents = c.into_caches.result.contents in
    let leaves = leaves_or_stays g.J.Numbering.knows (g.E.Executor.leaves board.job.executor) in
    let left = c.into_caches.ensures.runs c.in-Ok-outcome.ensures.given in
    let named = subst (λ p. AreLeftByRuns leaves p board.first contents) c.in-Ok-outcome.ensures.problem left in
    let here = subst (λ first. AreLeftByRuns leaves g.J.Case.problem first contents) c.in-Ok-outcome.ensures.first named in
    left_by_runs-same leaves g.J.Case.leaves g.J.Case.problem g.J.Case.first contents c.in-Ok-outcome.ensures.leaves here

-- no vertex is ready after the history that left them
pub returns-in-Ok-outcome-clause-ended : goal.returns-in-Ok-outcome-clause-ended
returns-in-Ok-outcome-clause-ended g c =
    let board = c.in-Ok-outcome.field-0.board in
    let problem = board_problem g.E.Executor.out board in
    let leaves = leaves_or_stays g.J.Numbering.knows (g.E.Executor.leaves board.job.executor) in
    let known = c.history-known.ensures in
    let over = subst (λ p. (vertex : ℕ) → ¬ IsReady p board.run.history vertex) (sym c.in-Ok-outcome.ensures.problem) c.in-Ok-outcome.ensures.over in
    let ended = left-at-end leaves problem board.run board.first board.contents known.problem known.replay c.in-Ok-outcome.ensures.claims known.contents c.in-Ok-outcome.ensures.given over in
    let held = subst (AreLeftAtEnd leaves problem board.first) (sym (ap (λ store. store.contents) c.into_caches.ensures.value)) ended in
    let named = subst (λ p. AreLeftAtEnd leaves p board.first c.into_caches.result.contents) c.in-Ok-outcome.ensures.problem held in
    let here = subst (λ first. AreLeftAtEnd leaves g.J.Case.problem first c.into_caches.result.contents) c.in-Ok-outcome.ensures.first named in
    left-at-end-same leaves g.J.Case.leaves g.J.Case.problem g.J.Case.first c.into_caches.result.contents c.in-Ok-outcome.ensures.leaves here
