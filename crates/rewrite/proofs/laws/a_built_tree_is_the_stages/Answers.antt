use Rattle.rewrite.proofs.LawFacts.{built_is}
use Rattle.rewrite.proofs.laws.a_built_tree_is_the_stages.Goals as goal

pub returns : goal.returns
returns g c = built_is
