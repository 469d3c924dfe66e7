use Rattle.command.proofs.Matched.{found_whole, none_answer, some_answer}
use Rattle.command.proofs.reading.task_of.Goals as goal

pub returns-in-Some-clause-some : goal.returns-in-Some-clause-some
returns-in-Some-clause-some c = some_answer _ _ _ (found_whole _ _ _ c.in-Some.ensures.name c.in-Some.ensures.rows) c.named_task.ensures

pub returns-in-Some-clause-none : goal.returns-in-Some-clause-none
returns-in-Some-clause-none c = none_answer _ _ _ (found_whole _ _ _ c.in-Some.ensures.name c.in-Some.ensures.rows) c.named_task.ensures
