use Rattle.clap.specs.Words.{with_subcommand}
use Rattle.command.specs.CommandLine.{bundle_command, pack_command, why_command}
use Rattle.command.proofs.commands.asking_command.Goals as goal

pub returns : goal.returns
returns c = c.with_command.ensures (with_subcommand bundle_command pack_command.top) why_command (c.with_command-command.ensures bundle_command pack_command c.bundle_command.ensures c.pack_command.ensures.app) c.why_command.ensures.app
