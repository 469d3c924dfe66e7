use Rattle.imageconfig.proofs.LawFacts.{cmd-unset, cmd-kept}
use Rattle.imageconfig.proofs.laws.entrypoint_unsets_the_cmd_of_the_base.Goals as goal

pub returns-clause-unset : goal.returns-clause-unset
returns-clause-unset c = cmd-unset

pub returns-clause-kept : goal.returns-clause-kept
returns-clause-kept c = cmd-kept
