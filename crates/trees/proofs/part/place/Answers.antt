use Rattle.std.proofs.Common.{arith}
use Rattle.trees.proofs.PartSteps.{place-start, place-down, place-up, place-done}
use Rattle.trees.proofs.part.place.Goals as goal

pub returns-then-begins_past : goal.returns-then-begins_past
returns-then-begins_past c =
    place-done c.args.name.now c.args.parts.now c.requires 0 1 (place-down c.args.name.now c.args.parts.now c.requires 0 _ 1 (place-start c.args.name.now c.args.parts.now c.requires) (omega arith) (omega arith) c.index-parts-1.result c.index-parts-1.is _ c.begins_past.ensures c.if-begins_past.true) (omega arith)

pub loop-high-init : goal.loop-high-init
loop-high-init c = (omega arith, omega arith, place-start c.args.name.now c.args.parts.now c.requires)

pub loop-high-preserved-then-begins_past-2 : goal.loop-high-preserved-then-begins_past-2
loop-high-preserved-then-begins_past-2 c =
    (omega arith, omega arith, place-down c.args.name.now c.args.parts.now c.requires c.loop-high.low c.loop-high.high _ c.loop-high.invariant.2 (omega arith) (omega arith) c.index-parts-middle.result c.index-parts-middle.is _ c.begins_past-in-loop-high.ensures c.if-begins_past-2.true)

pub loop-high-preserved : goal.loop-high-preserved
loop-high-preserved c =
    (omega arith, omega arith, place-up c.args.name.now c.args.parts.now c.requires c.loop-high.low c.loop-high.high _ c.loop-high.invariant.2 (omega arith) c.index-parts-middle.result c.index-parts-middle.is _ c.begins_past-in-loop-high.ensures c.if-begins_past-2.false)
