use Rattle.std.proofs.Common.{take, drop, ap, refl}
use Rattle.trees.specs.PrivateNode.{NodeValue}
use Rattle.trees.proofs.GrowingSteps.{leaf-grown, no-more, start-kids, next-own, name-before, next-kids, with-row, without-row, both-ok, kept}
use Rattle.trees.proofs.growing.+grow.Goals as goal

pub returns-in_default : goal.returns-in_default
returns-in_default t c =
    leaf-grown c.args.left.now.items c.args.left.now.items (take c.args.depth c.args.path.now) (drop c.args.depth c.args.path.now) c.args.entry c.leaf.result refl
    (no-more c.args.path.now c.components-names.result.now c.components-names.ensures.value c.args.depth c.in_default.ensures.lookup.3) (ap (λ (n : NodeValue). n.top) c.leaf.ensures) (ap (λ (n : NodeValue). n.below) c.leaf.ensures)

pub loop-next-init : goal.loop-next-init
loop-next-init t c =
    start-kids c.args.path.now c.components-names.result.now c.components-names.ensures.value c.args.depth c.in-Some.name.now c.in-Some.ensures.lookup.3.0 c.in-Some.ensures.lookup.1 c.args.left.now.items c.grow.new.left.items c.args.entry c.in_ok-kid.kid c.none.result c.in_ok-kids.kids
    c.none.ensures c.in_ok-kids.ensures c.in_ok-kid.ensures

pub returns-in-None : goal.returns-in-None
returns-in-None t c =
    both-ok c.into_node.result _ _ _ (λ node top under.
    with-row c.args.left.now.items c.loop-next.left.items c.pop_next.new.left.items (take c.args.depth c.args.path.now) (drop c.args.depth c.args.path.now) c.args.entry c.in-Some-pop_next.next c.in-Some-pop_next.entry node c.loop-next.kids c.loop-next.invariant c.in-Some-pop_next.ensures.whole
    (next-own c.args.path.now c.components-names.result.now c.components-names.ensures.value c.args.depth c.requires c.in-Some-pop_next.next c.components.result.now c.loop-next.kids c.components.ensures.value c.in-Some-pop_next.ensures.next c.in-None.ensures.lookup.3)
    c.in-Some-pop_next.ensures.clean top under) c.into_node.ensures.top c.into_node.ensures.below

pub with-requires-in-Some-get : goal.with-requires-in-Some-get
with-requires-in-Some-get t c =
    name-before c.args.path.now c.components-names.result.now c.components-names.ensures.value c.args.depth c.requires c.in-Some-pop_next.next c.components.result.now c.loop-next.kids c.components.ensures.value c.in-Some-pop_next.ensures.next c.in-Some-get.name.now c.in-Some-get.ensures.lookup.3.0 c.in-Some-get.ensures.lookup.1

pub loop-next-preserved : goal.loop-next-preserved
loop-next-preserved t c =
    next-kids c.args.path.now c.components-names.result.now c.components-names.ensures.value c.args.depth c.requires c.in-Some-pop_next.next c.components.result.now c.loop-next.kids c.components.ensures.value c.in-Some-pop_next.ensures.next c.in-Some-get.name.now c.in-Some-get.ensures.lookup.3.0 c.in-Some-get.ensures.lookup.1
    c.args.left.now.items c.loop-next.left.items c.pop_next.new.left.items c.grow-in-Some-get.new.left.items (drop c.args.depth c.args.path.now) c.args.entry c.in-Some-pop_next.entry c.in_ok-kid-in-Some-get.kid c.in_ok-kids-in-Some-get.kids c.in_ok-kids-in-Some-get.ensures c.loop-next.invariant c.in-Some-pop_next.ensures.whole
    c.in-Some-pop_next.ensures.clean c.in_ok-kid-in-Some-get.ensures

pub returns : goal.returns
returns t c =
    both-ok c.into_node-2.result _ _ _ (λ node top under.
    without-row c.args.left.now.items c.pop_next.new.left.items (take c.args.depth c.args.path.now) (drop c.args.depth c.args.path.now) c.args.entry c.directory.result node c.loop-next.kids (kept c.args.left.now.items c.loop-next.left.items c.pop_next.new.left.items (take c.args.depth c.args.path.now) (drop c.args.depth c.args.path.now) c.args.entry c.loop-next.kids c.in_default-pop_next.ensures c.loop-next.invariant) top c.directory.ensures under) c.into_node-2.ensures.top c.into_node-2.ensures.below
