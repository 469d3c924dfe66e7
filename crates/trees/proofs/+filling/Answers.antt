use Rattle.std.proofs.Common.{◌∙◌, sym, ap, subst}
use Rattle.std.proofs.lemmas.Result.{on_ok_weaker}
use Rattle.trees.specs.PrivateNode.{NodeValue, map_of, joined, IsFilled}
use Rattle.trees.proofs.FillSteps.{fill-kid, fill-none, fill-step, fill-own}
use Rattle.std.proofs.Common.{◌≡◌, ◌+◌, ◌<◌, Some, None, arith}
use Rattle.trees.specs.PrivateNode.{height_of}
use Rattle.std.specs.Prelude.{is_ok}
use Rattle.std.specs.FinMap.{get}
use Rattle.trees.proofs.CutSteps.{long-path}
use Rattle.trees.proofs.NodeSteps.{is-kid, at-err, there, found-lower}
use Rattle.trees.proofs.DepthSteps.{depth-filled, max-left, max-right}
use Rattle.trees.proofs.BelowSteps.{leaf-bare, leaf-filled}
use Rattle.std.specs.Arc.{arc_value}
use Rattle.trees.specs.PrivateHeld.{held_value}
use Rattle.trees.proofs.SeenSteps.{changed-here}
use Rattle.trees.proofs.+filling.Goals as goal

pub inner::Inner::fill-returns : goal.inner::Inner::fill-returns
inner::Inner::fill-returns t c =
    fill-step _ _ c.self.inside.kids c.fill.new.self _ c.name-item.result _ c.self.view_is c.in-len1-up.len_at_least c.name-item.is c.in_ok-fill.ensures

pub inner::Inner::fill-invariant_of-self-2 : goal.inner::Inner::fill-invariant_of-self-2
inner::Inner::fill-invariant_of-self-2 t c =
    let d = c.self.inside.depth in
    let l = c.lifted.result in
    let e = c.max-deepest.result in
    depth-filled d c.depth.result l e (joined c.self.inside.kids) (joined c.fill.new.self) c.args.path.now c.name-item.result _ c.in-len1-up.len_at_least c.name-item.is (max-left d l e c.max-deepest.ensures) (max-right d l e c.max-deepest.ensures) c.lifted.ensures c.in_ok-fill.ensures c.self.invariant c.depth.ensures

pub children::Children::fill-fill-requires : goal.children::Children::fill-fill-requires
children::Children::fill-fill-requires t c =
    let low = found-lower c.args.self.now c.args.name.now c.in-Ok.kid.now c.in-Ok.ensures.kid in
    let d : height_of c.args.self.now + height_of c.args.self.now + 1 ≡ t = c.decreases in
    let g : c.in-Ok.kid.now.height + c.in-Ok.kid.now.height + 1 < t = omega arith in
    (g, tt)

pub inner::Inner::fill-fill-requires : goal.inner::Inner::fill-fill-requires
inner::Inner::fill-fill-requires t c =
    let same : height_of c.self.inside.kids + 2 ≡ c.args.self.now.height = ap (λ v. v.height) c.self.view_is in
    let d : c.args.self.now.height + c.args.self.now.height ≡ t = c.decreases in
    let g : height_of c.self.inside.kids + height_of c.self.inside.kids + 1 < t = omega arith in
    (g, tt)

pub children::Children::fill-returns-in-Ok : goal.children::Children::fill-returns-in-Ok
children::Children::fill-returns-in-Ok t c =
    let new = c.own_mut.follows.lender c.fill.new.self in
    on_ok_weaker _ (fill-kid c.args.self.now new c.args.name.now _ _ c.fill.new.self _ (there c.args.self.now c.args.name.now (Some c.in-Ok.kid.now) c.in-Ok.ensures.kid) (is-kid c.args.self.now new c.args.name.now c.fill.new.self (c.own_mut.follows.holds c.fill.new.self (ap is_ok c.in-Ok.is)))) c.fill.ensures

pub children::Children::fill-returns-in-Err-Because : goal.children::Children::fill-returns-in-Err-Because
children::Children::fill-returns-in-Err-Because t c =
    fill-none c.args.self.now c.own_mut.follows.lender-at-none c.args.name.now _ _ (there c.args.self.now c.args.name.now None (c.in-Err-Because.ensures.absent c.in-Err-Because.field-0-0 c.in-Err-Because.field-0-is))
    (at-err c.own_mut.result c.in-Err-Because.field-0 c.in-Err-Because.is c.own_mut.follows.holds-at-none)

pub node::Node::fill-returns-in_default : goal.node::Node::fill-returns-in_default
node::Node::fill-returns-in_default t c =
    subst (λ (n : NodeValue). IsFilled (get (map_of c.args.self.now)) (get (map_of n)) c.args.path.now c.args.folder.now.below) (sym c.self.view_is)
    (leaf-filled c.args.self.now c.args.path.now c.args.folder.now.below (leaf-bare c.self.inside.held c.args.self.now c.in_default.field-0 c.self.view_is c.in_default.is) (long-path c.args.path.now c.is_empty.result c.is_empty.ensures c.if-is_empty.false))

pub node::Node::fill-returns-then-is_empty : goal.node::Node::fill-returns-then-is_empty
node::Node::fill-returns-then-is_empty t c =
    fill-own c.hold.result c.args.self.now c.hold.new.self c.args.path.now c.args.folder.now.below c.is_empty.result c.is_empty.ensures c.if-is_empty.true c.hold.ensures.top c.hold.ensures.below

pub node::Node::fill-returns-in-Some : goal.node::Node::fill-returns-in-Some
node::Node::fill-returns-in-Some t c =
    on_ok_weaker c.fill.result (changed-here (λ v n. IsFilled (get (map_of v)) (get (map_of n)) c.args.path.now c.args.folder.now.below) c.in-Folder.options (arc_value c.in-Folder.shared) c.in-Some.inner.now c.args.self.now c.fill.new.self (c.is_keeping.ensures c.if-is_keeping.true) c.in-Some.ensures.value
    (sym (ap held_value c.in-Folder.is) ∙ c.self.view_is)) c.fill.ensures
