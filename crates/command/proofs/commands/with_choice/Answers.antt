use Rattle.std.proofs.Common.{codes}
use Rattle.clap.specs.Words.{with_rule}
use Rattle.command.specs.CommandLine.{argument_option, image_option, text_option}
use Rattle.command.proofs.commands.with_choice.Goals as goal

pub returns-clause-app : goal.returns-clause-app
returns-clause-app c = λ app given. c.with_argument.ensures.app (with_rule (with_rule (with_rule app (text_option (codes "file"))) (text_option (codes "target"))) argument_option) image_option (c.with_argument-command-3.ensures.app (with_rule (with_rule app (text_option (codes "file"))) (text_option (codes "target"))) argument_option (c.with_argument-command-2.ensures.app (with_rule app (text_option (codes "file"))) (text_option (codes "target")) (c.with_argument-command.ensures.app app (text_option (codes "file")) given c.text_option-file.ensures.rule) c.text_option-target.ensures.rule) c.argument_option.ensures.rule) c.image_option.ensures.rule

pub returns-clause-local : goal.returns-clause-local
returns-clause-local c = λ local. c.with_argument.ensures.local (c.with_argument-command-3.ensures.local (c.with_argument-command-2.ensures.local (c.with_argument-command.ensures.local local)))
