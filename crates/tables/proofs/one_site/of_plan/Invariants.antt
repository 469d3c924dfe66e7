use Rattle.std.specs.Prelude.{[], false}
use Rattle.board.specs.Job.{job_problem}
use Rattle.tables.proofs.one_site.of_plan.Given as goal

-- the site's problem is that of the job which is given to it, its caches hold nothing at the start, and it promises nothing of what a settle gives back
abbrev pub ghosts-of_job-J-Case : goal.ghosts-of_job-J-Case
ghosts-of_job-J-Case g a = record { problem = job_problem g.E.Executor.out a.job; first = []; leaves = λ _ _ _. Unit {0}; promises = false; before = [] }

-- its roll is on the table that was opened for it
abbrev pub ghosts-of_job-J-Room : goal.ghosts-of_job-J-Room
ghosts-of_job-J-Room g a = record { table = a.opened.table.shared.table_id }
