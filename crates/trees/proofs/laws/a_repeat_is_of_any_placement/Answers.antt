use Rattle.trees.proofs.CopyTrees.{is_repeated-any}
use Rattle.trees.proofs.laws.a_repeat_is_of_any_placement.Goals as goal

pub returns : goal.returns
returns c = is_repeated-any
