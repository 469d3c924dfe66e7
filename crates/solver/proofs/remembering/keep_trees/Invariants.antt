use Rattle.std.proofs.Common.{◌≡◌, Some, take}
use Rattle.board.specs.Board.{board_problem}
use Rattle.board.specs.Problem.{values_in}
use Rattle.plans.specs.Value.{trees_at}
use Rattle.memo.specs.Kept.{KeepsAll, kept_trees}
use Rattle.solver.specs.PrivateRemembering.{Remembers}
use Rattle.solver.proofs.remembering.keep_trees.Given as goal

-- the numbers so far are those of the trees of the first vertices
abbrev pub invariant-loop-vertex : goal.invariant-loop-vertex
invariant-loop-vertex g l = record {
  remembers : Remembers (values_in (board_problem g.E.Executor.out l.board)) l.fn.memo l.memo l.kept.items;
  trees : trees_at (values_in (board_problem g.E.Executor.out l.board)) (take l.vertex-index l.vertices) ≡ Some (kept_trees l.memo.recent l.numbers);
  keeps : KeepsAll l.memo.recent l.numbers;
}
