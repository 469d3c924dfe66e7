use Rattle.std.proofs.Common.{codes}
use Rattle.clap.specs.Words.{new_app}
use Rattle.command.proofs.commands.config_command.Goals as goal

pub returns-clause-app : goal.returns-clause-app
returns-clause-app c = c.with_source.ensures.app (new_app (codes "config")) c.described-command.ensures.app

pub returns-clause-local : goal.returns-clause-local
returns-clause-local c = c.with_source.ensures.local c.described-command.ensures.local
