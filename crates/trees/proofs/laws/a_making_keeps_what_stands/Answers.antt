use Rattle.trees.proofs.CopySteps.{get-made, made-IsTree, made-kept}
use Rattle.trees.proofs.laws.a_making_keeps_what_stands.Goals as goal

pub returns : goal.returns
returns c = record { at = get-made; tree = made-IsTree; kept = made-kept }
