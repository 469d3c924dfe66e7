use Rattle.clap.specs.Words.{with_subcommand}
use Rattle.command.specs.CommandLine.{bare_command, build_command, graph_command}
use Rattle.command.proofs.commands.bundle_command.Goals as goal

pub returns : goal.returns
returns c = c.with_command.ensures (with_subcommand bare_command build_command.top) graph_command (c.with_command-command.ensures bare_command build_command c.bare_command.ensures c.build_command.ensures.app) c.graph_command.ensures.app
