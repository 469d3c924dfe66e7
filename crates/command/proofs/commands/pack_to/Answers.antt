use Rattle.std.proofs.Common.{codes}
use Rattle.clap.specs.Words.{new_app, with_rule}
use Rattle.command.specs.CommandLine.{folder_argument, text_option, with_choice}
use Rattle.command.proofs.commands.pack_to.Goals as goal

pub returns-clause-app : goal.returns-clause-app
returns-clause-app c = c.with_argument.ensures.app (with_choice (with_rule (new_app (codes "pack")) folder_argument)) (text_option (codes "output")) (c.with_choice-command.ensures.app (with_rule (new_app (codes "pack")) folder_argument) (c.with_argument-command.ensures.app (new_app (codes "pack")) folder_argument c.described-command.ensures.app c.folder_argument.ensures.rule)) c.text_option-output.ensures.rule

pub returns-clause-local : goal.returns-clause-local
returns-clause-local c = c.with_argument.ensures.local (c.with_choice-command.ensures.local (c.with_argument-command.ensures.local c.described-command.ensures.local))
