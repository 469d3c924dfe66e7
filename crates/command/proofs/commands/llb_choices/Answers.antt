use Rattle.std.proofs.Common.{codes}
use Rattle.clap.specs.Words.{with_rule}
use Rattle.command.specs.CommandLine.{flag, llb_options, text_option}
use Rattle.command.proofs.commands.llb_choices.Goals as goal

pub returns-clause-app : goal.returns-clause-app
returns-clause-app c = c.with_argument.ensures.app (with_rule llb_options (text_option (codes "merge"))) (flag (codes "follow")) (c.with_argument-command.ensures.app llb_options (text_option (codes "merge")) c.llb_options.ensures.app c.text_option-merge.ensures.rule) c.flag-follow.ensures.rule

pub returns-clause-local : goal.returns-clause-local
returns-clause-local c = c.with_argument.ensures.local (c.with_argument-command.ensures.local c.llb_options.ensures.local)
