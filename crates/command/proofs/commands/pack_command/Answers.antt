use Rattle.std.proofs.Common.{codes}
use Rattle.clap.specs.Words.{with_rule}
use Rattle.command.specs.CommandLine.{flag, pack_to}
use Rattle.command.proofs.commands.pack_command.Goals as goal

pub returns-clause-app : goal.returns-clause-app
returns-clause-app c = c.with_argument.ensures.app (with_rule pack_to (flag (codes "apply-ignore"))) (flag (codes "names")) (c.with_argument-command.ensures.app pack_to (flag (codes "apply-ignore")) c.pack_to.ensures.app c.flag-ignore.ensures.rule) c.flag-names.ensures.rule

pub returns-clause-local : goal.returns-clause-local
returns-clause-local c = c.with_argument.ensures.local (c.with_argument-command.ensures.local c.pack_to.ensures.local)
