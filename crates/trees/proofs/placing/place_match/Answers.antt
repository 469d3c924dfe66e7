use Rattle.trees.proofs.PlacingSteps.{told-by}
use Rattle.trees.proofs.placing.place_match.Goals as goal

pub returns : goal.returns
returns c = told-by _ _ _ _ _ _ _ _ c.apply_all.result c.parent_meta-parent.ensures c.in_ok-changes.ensures c.apply_all.ensures
