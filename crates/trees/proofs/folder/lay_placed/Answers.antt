use Rattle.std.proofs.Common.{subst, sym}
use Rattle.trees.specs.PrivateNode.{NodeValue, map_of}
use Rattle.trees.specs.PrivateCopy.{IsPlacedNode}
use Rattle.trees.proofs.PlacedSteps.{seen-placed}
use Rattle.trees.proofs.FolderDone.{laid-placed}
use Rattle.trees.proofs.folder.lay_placed.Goals as goal

pub returns : goal.returns
returns c =
    laid-placed c.args.options.now (map_of c.args.joined.now) c.args.folder.now c.placed.result _ (subst (λ (n : NodeValue). IsPlacedNode c.args.options.now c.args.folder.now n) (sym c.placed.ensures) (seen-placed c.args.options.now c.args.folder.now)) c.in_ok-lay_over.ensures
