use Rattle.std.proofs.Common.{ap, sym, refl, true, ◌∙◌, [], ◌∷◌, ◌++◌, ◌≡◌, ◌<◌, ◌+◌, Some, None, arith}
use Rattle.trees.specs.PrivateNode.{map_of, height_of}
use Rattle.std.specs.Prelude.{is_ok}
use Rattle.trees.proofs.NodeSteps.{is-kid, at-err, kids-from, there, kid-lower}
use Rattle.trees.proofs.KidLists.{found-among, passed-more}
use Rattle.trees.proofs.OverSteps.{over-file, over-leaf, over-bare, hidden-whole, laid-end, laid-start, laid-done, changed_tree-more}
use Rattle.trees.specs.PrivateHeld.{held_value}
use Rattle.trees.proofs.BelowSteps.{leaf-bare}
use Rattle.trees.proofs.DepthSteps.{depth-laid, max-left, max-right}
use Rattle.std.proofs.lemmas.Result.{on_ok_weaker}
use Rattle.std.proofs.Common.{subst}
use Rattle.std.specs.Arc.{arc_value}
use Rattle.trees.specs.Over.{over}
use Rattle.trees.specs.PrivateNode.{NodeValue, IsDepth}
use Rattle.trees.specs.PrivateSeen.{seen}
use Rattle.trees.proofs.SeenSteps.{changed-here, kids-node}
use Rattle.trees.proofs.+laying.Goals as goal

pub node::Node::lay_over-returns-then-not-is_directory : goal.node::Node::lay_over-returns-then-not-is_directory
node::Node::lay_over-returns-then-not-is_directory t c =
    ap map_of (c.branch.view_is ∙ c.in_ok-self-inside.ensures) ∙ sym (over-file (map_of c.args.self.now) c.args.upper.now (sym c.is_directory.ensures ∙ c.if-not-is_directory.true))

pub node::Node::lay_over-returns-in_default : goal.node::Node::lay_over-returns-in_default
node::Node::lay_over-returns-in_default t c =
    over-leaf c.args.self.now c.args.upper.now c.set_entry.new.self (sym c.is_directory.ensures ∙ c.if-not-is_directory.false) (sym (ap (λ (n : NodeValue). n.below) c.in_default.ensures))
    (c.in_ok-set_entry.ensures.top ∙ c.in_ok-to_entry.ensures ∙ c.entry.ensures) c.set_entry.ensures.below

pub node::Node::lay_over-returns-in_default-held : goal.node::Node::lay_over-returns-in_default-held
node::Node::lay_over-returns-in_default-held t c =
    ap map_of (c.branch-in_default-held.view_is ∙ c.in_ok-self-inside-2.ensures) ∙ sym (over-bare c.args.self.now c.args.upper.now (leaf-bare c.self.inside.held c.args.self.now c.in_default-held.field-0 c.self.view_is c.in_default-held.is))

pub node::Node::lay_over-returns-then-is_hidden_by : goal.node::Node::lay_over-returns-then-is_hidden_by
node::Node::lay_over-returns-then-is_hidden_by t c =
    ap map_of (c.branch-then-is_hidden_by.view_is ∙ c.in_ok-self-inside-3.ensures)
    ∙ hidden-whole c.args.self.now c.args.upper.now (seen c.in-Folder.options c.deref.result.now) c.args.upper.now c.of.result c.in-Some.uppers (kids-node c.in-Folder.options c.deref.result.now.top c.kids.result.now c.of.result c.deref.result.now c.kids.ensures c.of.ensures)
    (ap (seen c.in-Folder.options) c.deref.ensures ∙ sym (ap held_value c.in-Folder.is) ∙ c.self.view_is) c.in-Some.ensures refl (sym c.is_directory.ensures ∙ c.if-not-is_directory.false) (c.is_hidden_by.ensures c.if-is_hidden_by.true)

pub inner::Inner::lay_over-lay_over-requires : goal.inner::Inner::lay_over-lay_over-requires
inner::Inner::lay_over-lay_over-requires t c =
    let same : height_of c.args.uppers.now + 2 ≡ c.args.upper.now.height = ap (λ (n : NodeValue). n.height) c.requires.kids in
    let d : c.args.upper.now.height + c.args.upper.now.height ≡ t = c.decreases in
    let g : height_of c.args.uppers.now + height_of c.args.uppers.now + 1 < t = omega arith in
    (g, tt)

pub inner::Inner::lay_over-returns : goal.inner::Inner::lay_over-returns
inner::Inner::lay_over-returns t c =
    laid-end _ c.args.upper.now c.self.inside.entry _ c.args.upper.now.top c.self.inside.kids c.args.uppers.now c.lay_over.new.self true c.self.view_is c.requires.kids (sym c.requires.directory) refl (c.in_ok-self-inside.ensures ∙ c.entry.ensures) c.in_ok-is_less.ensures

pub inner::Inner::lay_over-depth_of-self-inside-requires : goal.inner::Inner::lay_over-depth_of-self-inside-requires
inner::Inner::lay_over-depth_of-self-inside-requires t c =
    let d = c.self.inside.depth in
    let f = c.depth.result in
    let e = c.max-deepest.result in
    depth-laid d f e c.self.inside.kids c.args.uppers.now c.lay_over.new.self c.in_ok-is_less.ensures (max-left d f e c.max-deepest.ensures) (max-right d f e c.max-deepest.ensures) c.self.invariant
    (subst (IsDepth f) (sym (ap (λ (n : NodeValue). n.below) c.requires.kids)) c.depth.ensures)

pub children::Children::lay_over-loop-name-init : goal.children::Children::lay_over-loop-name-init
children::Children::lay_over-loop-name-init t c = (laid-start c.args.self.now c.args.upper.now c.iter-uppers.result c.iter-uppers.ensures.all c.iter-uppers.ensures.ordered, ([], c.iter-uppers.ensures.all))

pub children::Children::lay_over-lay_over-requires : goal.children::Children::lay_over-lay_over-requires
children::Children::lay_over-lay_over-requires t c =
    let has = found-among c.args.upper.now c.loop-name.invariant.1.0 c.next.new.self c.loop-name.uppers c.in-Some.name.now c.in-Some.kid c.iter-uppers.ensures.ordered c.loop-name.invariant.1.1 c.in-Some.ensures in
    let low = kid-lower c.args.upper.now c.in-Some.name.now c.in-Some.kid has in
    let d : height_of c.args.upper.now + height_of c.args.upper.now + 1 ≡ t = c.decreases in
    let g : c.in-Some.kid.height + c.in-Some.kid.height + 1 < t = omega arith in
    (g, tt)

pub children::Children::lay_over-loop-name-preserved-then-branch : goal.children::Children::lay_over-loop-name-preserved-then-branch
children::Children::lay_over-loop-name-preserved-then-branch t c =
    let new = c.own_mut.follows.lender c.lay_over.new.self in (
      changed_tree-more _ _ _ _ _ new c.in-Some.name.now c.in-Some.kid c.lay_over.new.self (Some c.in-Ok.below.now) c.loop-name.invariant.0 c.in-Some.ensures (there c.loop-name.self c.in-Some.name.now (Some c.in-Ok.below.now) c.in-Ok.ensures.kid) (is-kid c.loop-name.self new c.in-Some.name.now c.lay_over.new.self (c.own_mut.follows.holds c.lay_over.new.self (ap is_ok c.in-Ok.is))) (ap Some c.in_ok-lay_over-in-Ok.ensures),
      (c.loop-name.invariant.1.0 ++ (c.in-Some.name.now, c.in-Some.kid) ∷ [], passed-more c.args.upper.now c.loop-name.invariant.1.0 c.next.new.self c.loop-name.uppers c.in-Some.name.now c.in-Some.kid c.loop-name.invariant.1.1 c.in-Some.ensures),
    )

pub children::Children::lay_over-loop-name-preserved-else-branch : goal.children::Children::lay_over-loop-name-preserved-else-branch
children::Children::lay_over-loop-name-preserved-else-branch t c =
    let new = c.own_mut.follows.lender c.lay_over.new.self in (
      changed_tree-more _ _ _ _ _ new c.in-Some.name.now c.in-Some.kid c.lay_over.new.self (Some c.in-Ok.below.now) c.loop-name.invariant.0 c.in-Some.ensures (there c.loop-name.self c.in-Some.name.now (Some c.in-Ok.below.now) c.in-Ok.ensures.kid) (is-kid c.loop-name.self new c.in-Some.name.now c.lay_over.new.self (c.own_mut.follows.holds c.lay_over.new.self (ap is_ok c.in-Ok.is))) (ap Some c.in_ok-lay_over-in-Ok.ensures),
      (c.loop-name.invariant.1.0 ++ (c.in-Some.name.now, c.in-Some.kid) ∷ [], passed-more c.args.upper.now c.loop-name.invariant.1.0 c.next.new.self c.loop-name.uppers c.in-Some.name.now c.in-Some.kid c.loop-name.invariant.1.1 c.in-Some.ensures),
    )

pub children::Children::lay_over-loop-name-preserved : goal.children::Children::lay_over-loop-name-preserved
children::Children::lay_over-loop-name-preserved t c =
    let none = there c.loop-name.self c.in-Some.name.now None (c.in-Err-Because.ensures.absent c.in-Err-Because.field-0-0 c.in-Err-Because.field-0-is) in (
      changed_tree-more _ _ _ _ _ c.insert.new.self c.in-Some.name.now c.in-Some.kid c.in_ok-copy-in-Err-Because.field-0 None c.loop-name.invariant.0 c.in-Some.ensures none
          (is-kid c.loop-name.self c.insert.new.self c.in-Some.name.now c.in_ok-copy-in-Err-Because.field-0 (kids-from c.own_mut.follows.lender-at-none c.loop-name.self c.insert.new.self c.in-Some.name.now (Some c.in_ok-copy-in-Err-Because.field-0) (at-err c.own_mut.result c.in-Err-Because.field-0 c.in-Err-Because.is c.own_mut.follows.holds-at-none) c.in_ok-insert-in-Err-Because.ensures.ok)) (ap (λ n. Some (map_of n)) c.in_ok-copy-in-Err-Because.ensures),
      (c.loop-name.invariant.1.0 ++ (c.in-Some.name.now, c.in-Some.kid) ∷ [], passed-more c.args.upper.now c.loop-name.invariant.1.0 c.next.new.self c.loop-name.uppers c.in-Some.name.now c.in-Some.kid c.loop-name.invariant.1.1 c.in-Some.ensures),
    )

pub children::Children::lay_over-returns : goal.children::Children::lay_over-returns
children::Children::lay_over-returns t c = laid-done c.args.self.now c.args.upper.now c.loop-name.self c.loop-name.uppers c.loop-name.invariant.0 c.in_default.ensures.0

pub node::Node::lay_over-returns-in-Some-get_mut : goal.node::Node::lay_over-returns-in-Some-get_mut
node::Node::lay_over-returns-in-Some-get_mut t c =
    on_ok_weaker c.lay_over.result (changed-here (λ v n. map_of n ≡ over (map_of v) (map_of c.args.upper.now)) c.in-Folder.options (arc_value c.in-Folder.shared) c.in-Some-get_mut.inner.now c.args.self.now c.lay_over.new.self (c.is_keeping.ensures c.if-is_keeping.true) c.in-Some-get_mut.ensures.value
    (sym (ap held_value c.in-Folder.is) ∙ c.self.view_is)) c.lay_over.ensures
