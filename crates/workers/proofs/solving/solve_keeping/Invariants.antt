use Rattle.std.proofs.Common.{[], true}
use Rattle.plans.specs.Plan.{problem_of}
use Rattle.board.specs.Problem.{values_in}
use Rattle.memo.specs.Memo.{Knows}
use Rattle.solver.specs.Recall.{leaves_or_stays}
use Rattle.workers.proofs.solving.solve_keeping.Given as goal

-- the site's problem is that of the plan, the contents at the start are those of the store that is lent, and nothing has happened before. In the caches may be
-- left what the executor leaves, or stay what was there, where the memo knows the request, and each settle gives back such trees.
abbrev pub ghosts-solved-J-Case : goal.ghosts-solved-J-Case
ghosts-solved-J-Case g a = record {
  problem = problem_of (g.E.Executor.out a.executor.now) a.plan.now;
  first = a.caches.contents;
  before = [];
  leaves = leaves_or_stays (Knows a.memo.now) (g.E.Executor.leaves a.executor.now);
  promises = true;
}

-- its roll is on the table that was opened for it
abbrev pub ghosts-solved-J-Room : goal.ghosts-solved-J-Room
ghosts-solved-J-Room g a = record { table = a.opened.table.shared.table_id }

-- its findings are of that problem and of the memo that is lent
abbrev pub ghosts-solved-J-Numbering : goal.ghosts-solved-J-Numbering
ghosts-solved-J-Numbering g a = record {
  out = g.E.Executor.out a.executor.now;
  values = values_in (problem_of (g.E.Executor.out a.executor.now) a.plan.now);
  recent = a.memo.now.recent.trees;
  earlier = a.memo.now.earlier.trees;
  knows = Knows a.memo.now;
}
