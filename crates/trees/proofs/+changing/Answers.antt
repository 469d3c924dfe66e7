use Rattle.std.proofs.Common.{◌∙◌, sym, ap, refl, [], ◌∷◌, ◌++◌, ◌≡◌, ◌<◌, ◌+◌, arith}
use Rattle.std.proofs.lemmas.Result.{on_ok_weaker}
use Rattle.trees.specs.Copy.{placements}
use Rattle.trees.specs.PrivateNode.{height_of}
use Rattle.trees.proofs.SubtreeLaws.{clean-below}
use Rattle.trees.proofs.NodeSteps.{kid-lower}
use Rattle.trees.proofs.KidLists.{found-among, passed-more}
use Rattle.trees.specs.PrivateWalk.{rows_of}
use Rattle.trees.proofs.RowLists.{child-clean, below-clean, kids-clean}
use Rattle.trees.proofs.CopyRows.{items-step, items-all, items-node}
use Rattle.trees.proofs.BelowSteps.{none-changes}
use Rattle.trees.specs.PrivateNode.{NodeValue}
use Rattle.trees.proofs.+changing.Goals as goal

pub lent_kids::LentKids::push_changes-loop-name-init : goal.lent_kids::LentKids::push_changes-loop-name-init
lent_kids::LentKids::push_changes-loop-name-init t c = (ap (λ k. c.args.changes.now.items ++ placements c.args.options.now c.args.at.now (rows_of k)) c.iter-kids.ensures.all, ([], c.iter-kids.ensures.all))

pub lent_kids::LentKids::push_changes-child-requires : goal.lent_kids::LentKids::push_changes-child-requires
lent_kids::LentKids::push_changes-child-requires t c =
    child-clean c.args.self.now c.in-Some.name.now c.in-Some.kid [] (found-among c.args.self.now c.loop-name.invariant.1.0 c.next.new.self c.loop-name.kids c.in-Some.name.now c.in-Some.kid c.iter-kids.ensures.ordered c.loop-name.invariant.1.1 c.in-Some.ensures) c.requires

pub lent_kids::LentKids::push_changes-push_changes-requires : goal.lent_kids::LentKids::push_changes-push_changes-requires
lent_kids::LentKids::push_changes-push_changes-requires t c =
    let has = found-among c.args.self.now c.loop-name.invariant.1.0 c.next.new.self c.loop-name.kids c.in-Some.name.now c.in-Some.kid c.iter-kids.ensures.ordered c.loop-name.invariant.1.1 c.in-Some.ensures in
    let low = kid-lower c.args.self.now c.in-Some.name.now c.in-Some.kid has in
    let d : height_of c.args.self.now + height_of c.args.self.now + 1 ≡ t = c.decreases in
    let g : c.in-Some.kid.height + c.in-Some.kid.height + 1 < t = omega arith in
    (g, λ q s. clean-below (c.in-Some.name.now ∷ []) q (below-clean c.args.self.now c.in-Some.name.now c.in-Some.kid [] (c.in-Some.name.now ∷ []) has refl c.requires q s))

pub lent_kids::LentKids::push_changes-loop-name-preserved : goal.lent_kids::LentKids::push_changes-loop-name-preserved
lent_kids::LentKids::push_changes-loop-name-preserved t c = (
  items-step c.args.options.now c.args.at.now c.in_ok-below.below _ c.in-Some.name.now c.in-Some.kid _ c.loop-name.kids c.next.new.self c.loop-name.changes.items c.push.new.self.items c.push_changes.new.changes.items _
      c.loop-name.invariant.0 c.in-Some.ensures c.in_ok-below.ensures c.in_ok-copy.ensures (c.in_ok-entry.ensures ∙ c.entry.ensures ∙ ap (λ (n : NodeValue). n.top) c.placed.ensures) c.in_ok-push.ensures.items c.in_ok-push_changes.ensures,
  (c.loop-name.invariant.1.0 ++ (c.in-Some.name.now, c.in-Some.kid) ∷ [], passed-more c.args.self.now c.loop-name.invariant.1.0 c.next.new.self c.loop-name.kids c.in-Some.name.now c.in-Some.kid c.loop-name.invariant.1.1 c.in-Some.ensures),
)

pub lent_kids::LentKids::push_changes-returns : goal.lent_kids::LentKids::push_changes-returns
lent_kids::LentKids::push_changes-returns t c =
    items-all c.args.options.now c.args.at.now c.args.self.now c.args.self.now c.args.changes.now.items c.loop-name.changes.items c.iter-kids.ensures.ordered refl
    (ap (λ k. c.loop-name.changes.items ++ placements c.args.options.now c.args.at.now (rows_of k)) (sym c.in_default.ensures.0) ∙ c.loop-name.invariant.0)

pub lent_node::LentNode::push_changes-push_changes-requires : goal.lent_node::LentNode::push_changes-push_changes-requires
lent_node::LentNode::push_changes-push_changes-requires t c =
    let k = height_of c.in-Some.kids in
    let same : k + 2 ≡ c.args.self.now.height = ap (λ v. v.height) c.in-Some.ensures in
    let d : c.args.self.now.height + c.args.self.now.height + 1 ≡ t = c.decreases in
    let g : k + k + 1 < t = omega arith in
    (g, kids-clean _ c.args.self.now.top c.in-Some.kids c.in-Some.ensures c.requires)

pub lent_node::LentNode::push_changes-returns-in-Some : goal.lent_node::LentNode::push_changes-returns-in-Some
lent_node::LentNode::push_changes-returns-in-Some t c =
    on_ok_weaker _ (items-node c.args.options.now c.args.at.now _ c.args.self.now.top c.in-Some.kids c.args.changes.now.items c.push_changes.new.changes.items c.in-Some.ensures) c.push_changes.ensures

pub lent_node::LentNode::push_changes-returns-in-None : goal.lent_node::LentNode::push_changes-returns-in-None
lent_node::LentNode::push_changes-returns-in-None t c =
    items-node c.args.options.now c.args.at.now _ c.args.self.now.top [] c.args.changes.now.items _ c.in-None.ensures (none-changes c.args.changes.now.items c.args.options.now c.args.at.now [] refl)
