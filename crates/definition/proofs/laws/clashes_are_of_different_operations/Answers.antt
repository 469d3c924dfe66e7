use Rattle.definition.proofs.ClashLaws.{clash-is, no-clash-is}
use Rattle.definition.proofs.laws.clashes_are_of_different_operations.Goals as goal

pub returns-clause-told : goal.returns-clause-told
returns-clause-told c = clash-is

pub returns-clause-none : goal.returns-clause-none
returns-clause-none c = no-clash-is
