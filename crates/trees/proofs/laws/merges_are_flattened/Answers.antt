use Rattle.trees.proofs.OverLaws.{merged-first, over-empty}
use Rattle.trees.proofs.laws.merges_are_flattened.Goals as goal

pub returns-clause-first : goal.returns-clause-first
returns-clause-first c = merged-first

pub returns-clause-empty : goal.returns-clause-empty
returns-clause-empty c = over-empty
