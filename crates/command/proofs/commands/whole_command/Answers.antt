use Rattle.clap.specs.Words.{with_subcommand}
use Rattle.command.specs.CommandLine.{asking_command, check_command, config_command, explain_command, llb_command}
use Rattle.command.proofs.commands.whole_command.Goals as goal

pub returns : goal.returns
returns c = c.with_command.ensures (with_subcommand (with_subcommand (with_subcommand asking_command llb_command.top) config_command.top) check_command.top) explain_command (c.with_command-command-3.ensures (with_subcommand (with_subcommand asking_command llb_command.top) config_command.top) check_command (c.with_command-command-2.ensures (with_subcommand asking_command llb_command.top) config_command (c.with_command-command.ensures asking_command llb_command c.asking_command.ensures c.llb_command.ensures.app) c.config_command.ensures.app) c.check_command.ensures.app) c.explain_command.ensures.app
