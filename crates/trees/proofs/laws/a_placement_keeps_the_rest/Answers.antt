use Rattle.trees.proofs.TreeLaws.{get-put, put-IsTree}
use Rattle.trees.proofs.laws.a_placement_keeps_the_rest.Goals as goal

pub returns : goal.returns
returns c = record { at = get-put; tree = put-IsTree }
