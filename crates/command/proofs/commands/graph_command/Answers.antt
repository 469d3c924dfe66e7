use Rattle.std.proofs.Common.{codes}
use Rattle.clap.specs.Words.{new_app, with_rule}
use Rattle.command.specs.CommandLine.{flag}
use Rattle.command.proofs.commands.graph_command.Goals as goal

pub returns-clause-app : goal.returns-clause-app
returns-clause-app c = c.with_source.ensures.app (with_rule (new_app (codes "graph")) (flag (codes "dot"))) (c.with_argument-command.ensures.app (new_app (codes "graph")) (flag (codes "dot")) c.described-command.ensures.app c.flag.ensures.rule)

pub returns-clause-local : goal.returns-clause-local
returns-clause-local c = c.with_source.ensures.local (c.with_argument-command.ensures.local c.described-command.ensures.local)
