use Rattle.std.proofs.Common.{ap}
use Rattle.trees.specs.PrivateNode.{lists_of, node_of}
use Rattle.trees.specs.PrivateSpine.{OpenValue}
use Rattle.trees.proofs.DepthSteps.{max-left, max-right}
use Rattle.trees.proofs.PartedSteps.{parted-rows, parted-more}
use Rattle.trees.proofs.spine.OpenFolder.hold.Goals as goal

pub make_room-requires-clause-rise : goal.make_room-requires-clause-rise
make_room-requires-clause-rise c = parted-rows (lists_of c.self.inside.parts.items) c.self.inside.rows.items c.self.inside.depth c.self.invariant

pub invariant_of-result : goal.invariant_of-result
invariant_of-result c =
    parted-more (lists_of c.self.inside.parts.items) (lists_of c.make_room.new.parts.items) c.self.inside.rows.items c.make_room.new.rows.items c.push.new.self.items c.args.self.kids c.self.inside.depth c.max-deepest.result c.lifted.result c.depth.result c.args.last.name c.in_ok-kid.kid (node_of c.args.last.top c.args.last.kids)
    c.self.invariant (ap (λ (o : OpenValue). o.kids) c.self.view_is) c.in_ok-make_room.ensures c.in_ok-push.ensures.items c.in_ok-kid.ensures c.requires (max-left c.self.inside.depth c.lifted.result c.max-deepest.result c.max-deepest.ensures) (max-right c.self.inside.depth c.lifted.result c.max-deepest.result c.max-deepest.ensures) c.lifted.ensures c.depth.ensures
