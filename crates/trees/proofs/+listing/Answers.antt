use Rattle.std.proofs.Common.{◌∙◌, sym, ap, refl, [], ◌∷◌, ◌++◌, ◌≡◌, ◌<◌, ◌+◌, arith}
use Rattle.std.proofs.lemmas.Result.{on_ok_weaker}
use Rattle.trees.specs.Rows.{lent_rows}
use Rattle.trees.specs.PrivateNode.{rows_under, height_of}
use Rattle.trees.proofs.NodeSteps.{kid-lower}
use Rattle.trees.proofs.KidLists.{found-among, passed-more}
use Rattle.trees.specs.PrivateWalk.{rows_of}
use Rattle.trees.proofs.RowLists.{child-clean, below-clean, kids-clean, rows-step, rows-all, rows-node}
use Rattle.trees.proofs.BelowSteps.{none-rows}
use Rattle.trees.proofs.+listing.Goals as goal

pub lent_kids::LentKids::push_rows-loop-name-init : goal.lent_kids::LentKids::push_rows-loop-name-init
lent_kids::LentKids::push_rows-loop-name-init t c = (ap (λ k. lent_rows c.args.rows.now.items ++ rows_under c.args.at.now (rows_of k)) c.iter-kids.ensures.all, ([], c.iter-kids.ensures.all))

pub lent_kids::LentKids::push_rows-child-requires : goal.lent_kids::LentKids::push_rows-child-requires
lent_kids::LentKids::push_rows-child-requires t c =
    child-clean c.args.self.now c.in-Some.name.now c.in-Some.kid c.args.at.now (found-among c.args.self.now c.loop-name.invariant.1.0 c.next.new.self c.loop-name.kids c.in-Some.name.now c.in-Some.kid c.iter-kids.ensures.ordered c.loop-name.invariant.1.1 c.in-Some.ensures) c.requires

pub lent_kids::LentKids::push_rows-push_rows-requires : goal.lent_kids::LentKids::push_rows-push_rows-requires
lent_kids::LentKids::push_rows-push_rows-requires t c =
    let has = found-among c.args.self.now c.loop-name.invariant.1.0 c.next.new.self c.loop-name.kids c.in-Some.name.now c.in-Some.kid c.iter-kids.ensures.ordered c.loop-name.invariant.1.1 c.in-Some.ensures in
    let low = kid-lower c.args.self.now c.in-Some.name.now c.in-Some.kid has in
    let d : height_of c.args.self.now + height_of c.args.self.now + 1 ≡ t = c.decreases in
    let g : c.in-Some.kid.height + c.in-Some.kid.height + 1 < t = omega arith in
    (g, below-clean c.args.self.now c.in-Some.name.now c.in-Some.kid c.args.at.now c.in_ok-below.below has c.in_ok-below.ensures c.requires)

pub lent_kids::LentKids::push_rows-loop-name-preserved : goal.lent_kids::LentKids::push_rows-loop-name-preserved
lent_kids::LentKids::push_rows-loop-name-preserved t c = (
  rows-step c.args.at.now c.in_ok-below.below c.in-Some.name.now c.in-Some.kid c.loop-name.kids c.next.new.self (lent_rows c.loop-name.rows.items) (lent_rows c.push_rows.new.rows.items) _ c.loop-name.invariant.0 c.in-Some.ensures c.in_ok-below.ensures c.in_ok-push_rows.ensures,
  (c.loop-name.invariant.1.0 ++ (c.in-Some.name.now, c.in-Some.kid) ∷ [], passed-more c.args.self.now c.loop-name.invariant.1.0 c.next.new.self c.loop-name.kids c.in-Some.name.now c.in-Some.kid c.loop-name.invariant.1.1 c.in-Some.ensures),
)

pub lent_kids::LentKids::push_rows-returns : goal.lent_kids::LentKids::push_rows-returns
lent_kids::LentKids::push_rows-returns t c =
    rows-all c.args.self.now c.args.self.now c.args.at.now (lent_rows c.args.rows.now.items) (lent_rows c.loop-name.rows.items) c.iter-kids.ensures.ordered refl
    (ap (λ k. lent_rows c.loop-name.rows.items ++ rows_under c.args.at.now (rows_of k)) (sym c.in_default.ensures.0) ∙ c.loop-name.invariant.0)

pub lent_node::LentNode::push_rows-push_rows-requires : goal.lent_node::LentNode::push_rows-push_rows-requires
lent_node::LentNode::push_rows-push_rows-requires t c =
    let k = height_of c.in-Some.kids in
    let same : k + 2 ≡ c.args.self.now.height = ap (λ v. v.height) c.in-Some.ensures in
    let d : c.args.self.now.height + c.args.self.now.height + 1 ≡ t = c.decreases in
    let g : k + k + 1 < t = omega arith in
    (g, kids-clean _ c.args.self.now.top c.in-Some.kids c.in-Some.ensures c.requires)

pub lent_node::LentNode::push_rows-returns-in-Some : goal.lent_node::LentNode::push_rows-returns-in-Some
lent_node::LentNode::push_rows-returns-in-Some t c =
    on_ok_weaker _ (rows-node _ c.args.self.now.top c.in-Some.kids c.args.at.now c.in_ok-copy.field-0 c.entry.result c.args.rows.now.items c.push.new.self.items (lent_rows c.push_rows.new.rows.items) c.in-Some.ensures c.entry.ensures c.in_ok-copy.ensures c.in_ok-push.ensures.items) c.push_rows.ensures

pub lent_node::LentNode::push_rows-returns-in-None : goal.lent_node::LentNode::push_rows-returns-in-None
lent_node::LentNode::push_rows-returns-in-None t c =
    rows-node _ c.args.self.now.top [] c.args.at.now c.in_ok-copy.field-0 c.entry.result c.args.rows.now.items c.push.new.self.items _ c.in-None.ensures c.entry.ensures c.in_ok-copy.ensures c.in_ok-push.ensures.items (none-rows _ c.args.at.now [] refl)
