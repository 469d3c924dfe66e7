use Rattle.std.proofs.Common.{subst}
use Rattle.std.specs.FinMap.{get}
use Rattle.trees.specs.PrivateNode.{NodeValue, map_of, IsFilled}
use Rattle.trees.proofs.FolderDone.{hung-in}
use Rattle.trees.proofs.folder.hang_in.Goals as goal

pub returns : goal.returns
returns c =
    hung-in c.args.parent.now _ _ _ c.args.dest.now c.components.result.now c.args.folder.now c.in_ok-make.ensures.result c.components.ensures.value (subst (λ (n : NodeValue). IsFilled (get (map_of c.make.new.root)) (get (map_of c.fill.new.self)) c.components.result.now n.below) c.lent.ensures c.in_ok-fill.ensures)
