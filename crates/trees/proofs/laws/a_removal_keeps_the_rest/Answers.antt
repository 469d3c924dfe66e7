use Rattle.trees.proofs.RemoveLaws.{get-removed, removed-IsTree}
use Rattle.trees.proofs.laws.a_removal_keeps_the_rest.Goals as goal

pub returns : goal.returns
returns c = record { at = get-removed; tree = removed-IsTree }
