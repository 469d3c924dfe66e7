use Rattle.std.proofs.Common.{ap, drop}
use Rattle.std.proofs.lemmas.List.{drop_all}
use Rattle.trees.specs.PrivateNode.{lists_of}
use Rattle.trees.proofs.SeenSteps.{placed-part, parts-placed}
use Rattle.trees.proofs.part.placed_parts.Goals as goal

pub loop-part-preserved : goal.loop-part-preserved
loop-part-preserved c =
    placed-part c.args.options.now c.loop-part.placed.items c.push.new.self.items c.args.parts.now c.loop-part.part-index c.in_ok-new.field-0 c.part-item.result c.deref.result.now c.in_ok-names.names c.loop-part.invariant c.loop-part-test.true c.part-item.is
    c.deref.ensures c.in_ok-names.ensures c.in_ok-new.ensures.ok c.in_ok-push.ensures.items

pub returns : goal.returns
returns c =
    parts-placed c.args.options.now (lists_of c.loop-part.placed.items) (lists_of c.args.parts.now) (lists_of (drop c.loop-part.part-index c.args.parts.now)) c.loop-part.invariant (ap lists_of (drop_all c.loop-part.part-index c.args.parts.now c.loop-part-test.false))
