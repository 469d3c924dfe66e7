use Rattle.std.proofs.Common.{ap, refl}
use Rattle.ignorefile.specs.PrivateLeft.{positions_in}
use Rattle.ignorefile.proofs.Deciding.{verdict-found, moved-order, moved-best}
use Rattle.ignorefile.proofs.Leaving.{left-lying, left-others, left-counted, best-stands}
use Rattle.ignorefile.proofs.index.Index.verdict_left.Goals as goal

pub best_leaf-least-requires-clause-order : goal.best_leaf-least-requires-clause-order
best_leaf-least-requires-clause-order c =
    moved-order _ _ _ _ refl (ap positions_in c.as_slice.ensures) (left-lying c.args.lines.now c.args.self.now c.args.names.now c.args.left.now c.requires.some c.requires.left).order

pub best_leaf-low-requires-clause-order : goal.best_leaf-low-requires-clause-order
best_leaf-low-requires-clause-order c =
    moved-order _ _ _ _ refl (ap positions_in c.as_slice-2.ensures) (left-others c.args.lines.now c.args.self.now c.args.names.now c.args.left.now c.requires.some c.requires.left).order

pub best_leaf-middle-requires-clause-order : goal.best_leaf-middle-requires-clause-order
best_leaf-middle-requires-clause-order c =
    moved-order _ _ _ _ refl (ap positions_in c.as_slice-3.ensures) (left-counted c.args.lines.now c.args.self.now c.args.names.now c.args.left.now c.requires.some c.requires.left).order

pub returns : goal.returns
returns c =
    verdict-found _ _ _ _ _ _ c.requires.index _ _ _ _ _
    (best-stands _ _ _ _ _ _ (left-lying c.args.lines.now c.args.self.now c.args.names.now c.args.left.now c.requires.some c.requires.left) (moved-best _ _ _ _ _ _ _ refl (ap positions_in c.as_slice.ensures) c.best_leaf-least.ensures))
    (best-stands _ _ _ _ _ _ (left-others c.args.lines.now c.args.self.now c.args.names.now c.args.left.now c.requires.some c.requires.left) (moved-best _ _ _ _ _ _ _ refl (ap positions_in c.as_slice-2.ensures) c.best_leaf-low.ensures))
    (best-stands _ _ _ _ _ _ (left-counted c.args.lines.now c.args.self.now c.args.names.now c.args.left.now c.requires.some c.requires.left) (moved-best _ _ _ _ _ _ _ refl (ap positions_in c.as_slice-3.ensures) c.best_leaf-middle.ensures))
    _ c.verdict_found.ensures
