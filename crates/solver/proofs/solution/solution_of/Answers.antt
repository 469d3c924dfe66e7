use Rattle.std.proofs.Common.{◌≡◌, ◌∙◌, Some, Ok, Err, false, sym, ap, subst}
use Rattle.board.specs.Board.{board_problem}
use Rattle.board.specs.Play.{value_at}
use Rattle.board.specs.Readiness.{has_tree}
use Rattle.solver.proofs.SolutionLemmas.{settled-value, cause-found, least-at-end, first-is}
use Rattle.solver.proofs.solution.solution_of.Goals as goal

pub returns-in-Some-clause-solution : goal.returns-in-Some-clause-solution
returns-in-Some-clause-solution g c =
    let board = c.args.board.now in
    let is = c.history-known.ensures in
    let target : c.target.result ≡ board.job.target = c.target.ensures ∙ ap (λ job. job.target) c.job.ensures in
    let built : value_at board.run.state.settled board.job.target ≡ Some (Ok c.in_ok-copy.field-0) = subst (λ v. value_at board.run.state.settled v ≡ Some (Ok c.in_ok-copy.field-0)) target (c.in-Some.ensures.found ∙ ap (λ t. Some (Ok t)) (sym c.in_ok-copy.ensures)) in
    settled-value (board_problem g.E.Executor.out board) board.run board.job.target (Ok c.in_ok-copy.field-0) is.problem is.replay built

pub unreachable-requires : goal.unreachable-requires
unreachable-requires g c =
    let board = c.args.board.now in
    let is = c.history-known.ensures in
    let target : c.target.result ≡ board.job.target = c.target.ensures ∙ ap (λ job. job.target) c.job.ensures in
    let treeless : has_tree (value_at board.run.state.settled board.job.target) ≡ false = subst (λ v. has_tree (value_at board.run.state.settled v) ≡ false) target c.in_default.ensures.none in
    cause-found (board_problem g.E.Executor.out board) board.run is.problem is.replay c.requires.idle c.requires.over treeless c.in_default-least_failure.ensures

pub returns-clause-solution : goal.returns-clause-solution
returns-clause-solution g c =
    let board = c.args.board.now in
    let is = c.history-known.ensures in
    let failure = c.in-Some-least_failure.failure in
    let least = c.in-Some-least_failure.ensures in
    let target : c.target.result ≡ board.job.target = c.target.ensures ∙ ap (λ job. job.target) c.job.ensures in
    let treeless : has_tree (value_at board.run.state.settled board.job.target) ≡ false = subst (λ v. has_tree (value_at board.run.state.settled v) ≡ false) target c.in_default.ensures.none in
    record {
      value = settled-value (board_problem g.E.Executor.out board) board.run failure.vertex (Err failure.cause) is.problem is.replay least.settled_so;
      least = least.place;
      settled = least-at-end (board_problem g.E.Executor.out board) board.run failure is.problem is.replay c.requires.idle c.requires.over treeless least;
      first = first-is (board_problem g.E.Executor.out board) board.run failure is.problem is.replay c.requires.idle c.requires.over treeless least;
    }
