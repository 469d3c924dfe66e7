use Rattle.trees.proofs.BuiltLaws.{built-none, built-more}
use Rattle.trees.proofs.laws.rows_that_follow_build_their_tree.Goals as goal

pub returns-clause-none : goal.returns-clause-none
returns-clause-none c = built-none

pub returns-clause-more : goal.returns-clause-more
returns-clause-more c = built-more
