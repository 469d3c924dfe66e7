use Rattle.trees.specs.PrivateNode.{lists_of}
use Rattle.trees.proofs.DepthSteps.{max-left, max-right}
use Rattle.trees.proofs.GatheredSteps.{rows-rise, gathered-more, gathered-view}
use Rattle.trees.proofs.growing.Gathered.with.Goals as goal

pub make_room-requires-clause-rise : goal.make_room-requires-clause-rise
make_room-requires-clause-rise c = rows-rise c.self.inside.rows.items (lists_of c.self.inside.parts.items) c.self.inside.depth c.self.invariant

pub invariant_of-result : goal.invariant_of-result
invariant_of-result c =
    gathered-more c.self.inside.rows.items c.make_room.new.rows.items c.push.new.self.items c.args.self (lists_of c.self.inside.parts.items) (lists_of c.make_room.new.parts.items) c.self.inside.depth c.max-deepest.result c.lifted.result c.depth.result c.args.name.now _ c.args.kid
    c.self.invariant c.self.view_is c.in_ok-make_room.ensures c.in_ok-push.ensures.items (λ i. (c.in_ok-copy.ensures i, c.args.kid)) c.requires
    (max-left c.self.inside.depth c.lifted.result c.max-deepest.result c.max-deepest.ensures) (max-right c.self.inside.depth c.lifted.result c.max-deepest.result c.max-deepest.ensures) c.lifted.ensures c.depth.ensures

pub returns : goal.returns
returns c =
    gathered-view c.self.inside.rows.items c.make_room.new.rows.items c.push.new.self.items c.args.self (lists_of c.self.inside.parts.items) (lists_of c.make_room.new.parts.items) c.args.name.now _ c.args.kid c.self.view_is c.in_ok-make_room.ensures c.in_ok-push.ensures.items (λ i. (c.in_ok-copy.ensures i, c.args.kid))
