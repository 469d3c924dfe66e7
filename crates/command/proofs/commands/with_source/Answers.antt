use Rattle.command.specs.CommandLine.{bundle_argument, with_choice}
use Rattle.command.proofs.commands.with_source.Goals as goal

pub returns-clause-app : goal.returns-clause-app
returns-clause-app c = λ app given. c.with_argument.ensures.app (with_choice app) bundle_argument (c.with_choice-command.ensures.app app given) c.bundle_argument.ensures.rule

pub returns-clause-local : goal.returns-clause-local
returns-clause-local c = λ local. c.with_argument.ensures.local (c.with_choice-command.ensures.local local)
