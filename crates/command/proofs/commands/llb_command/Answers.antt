use Rattle.command.specs.CommandLine.{llb_choices}
use Rattle.command.proofs.commands.llb_command.Goals as goal

pub returns-clause-app : goal.returns-clause-app
returns-clause-app c = c.with_source.ensures.app llb_choices c.llb_choices.ensures.app

pub returns-clause-local : goal.returns-clause-local
returns-clause-local c = c.with_source.ensures.local c.llb_choices.ensures.local
