use Rattle.std.proofs.Common.{codes}
use Rattle.clap.specs.Words.{new_app, with_rule}
use Rattle.command.specs.CommandLine.{paths_argument, text_option, with_choice}
use Rattle.command.proofs.commands.why_command.Goals as goal

pub returns-clause-app : goal.returns-clause-app
returns-clause-app c = c.with_argument.ensures.app (with_choice (with_rule (new_app (codes "why")) (text_option (codes "bundle")))) paths_argument (c.with_choice-command.ensures.app (with_rule (new_app (codes "why")) (text_option (codes "bundle"))) (c.with_argument-command.ensures.app (new_app (codes "why")) (text_option (codes "bundle")) c.described-command.ensures.app c.text_option-bundle.ensures.rule)) c.paths_argument.ensures.rule

pub returns-clause-local : goal.returns-clause-local
returns-clause-local c = c.with_argument.ensures.local (c.with_choice-command.ensures.local (c.with_argument-command.ensures.local c.described-command.ensures.local))
