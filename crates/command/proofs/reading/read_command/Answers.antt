use Rattle.std.proofs.Common.{map}
use Rattle.command.proofs.Accepted.{asked_faults, asked_task, clap_fault}
use Rattle.command.proofs.reading.read_command.Goals as goal

pub returns-in-Ok-clause-task : goal.returns-in-Ok-clause-task
returns-in-Ok-clause-task c =
    asked_task _ (map (λ word. word.now) c.args.words.now) _ _ _ c.in_ok-command.ensures c.in-Ok.ensures.matches c.asked_task-task.ensures.task

pub returns-in-Ok-clause-faults : goal.returns-in-Ok-clause-faults
returns-in-Ok-clause-faults c =
    asked_faults _ (map (λ word. word.now) c.args.words.now) _ _ _ c.in_ok-command.ensures c.in-Ok.ensures.kinds c.in-Ok.ensures.matches
    c.asked_task-task.ensures.memory c.asked_task-task.ensures.none

pub returns-in-Err-clause-faults : goal.returns-in-Err-clause-faults
returns-in-Err-clause-faults c = clap_fault _ (map (λ word. word.now) c.args.words.now) c.in-Err.error c.in_ok-command.ensures c.in-Err.ensures.kinds
