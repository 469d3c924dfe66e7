use Rattle.std.proofs.Common.{codes}
use Rattle.clap.specs.Words.{new_app, with_rule}
use Rattle.command.specs.CommandLine.{text_option}
use Rattle.command.proofs.commands.llb_options.Goals as goal

pub returns-clause-app : goal.returns-clause-app
returns-clause-app c = c.with_argument.ensures.app (with_rule (with_rule (new_app (codes "llb")) (text_option (codes "platform"))) (text_option (codes "network"))) (text_option (codes "unique")) (c.with_argument-command-2.ensures.app (with_rule (new_app (codes "llb")) (text_option (codes "platform"))) (text_option (codes "network")) (c.with_argument-command.ensures.app (new_app (codes "llb")) (text_option (codes "platform")) c.described-command.ensures.app c.text_option-platform.ensures.rule) c.text_option-network.ensures.rule) c.text_option-unique.ensures.rule

pub returns-clause-local : goal.returns-clause-local
returns-clause-local c = c.with_argument.ensures.local (c.with_argument-command-2.ensures.local (c.with_argument-command.ensures.local c.described-command.ensures.local))
