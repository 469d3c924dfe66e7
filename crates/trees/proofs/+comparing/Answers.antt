use Rattle.std.proofs.Common.{◌∙◌, sym, refl, [], ◌∷◌, ◌++◌, true≢false}
use Rattle.trees.proofs.KidLists.{same-start, tops-same, same-both, same-step, passed-more}
use Rattle.trees.proofs.BelowSteps.{bare-same, none-same}
use Rattle.trees.proofs.+comparing.Goals as goal

pub lent_node::LentNode::same-returns-then-not-has_entry_of : goal.lent_node::LentNode::same-returns-then-not-has_entry_of
lent_node::LentNode::same-returns-then-not-has_entry_of t c =
    (λ h. absurd (true≢false (sym h)), λ e. absurd (true≢false (sym (c.has_entry_of.ensures.1 (tops-same c.args.self.now c.args.other.now e)) ∙ c.if-not-has_entry_of.true)))

pub lent_node::LentNode::same-returns-in_default : goal.lent_node::LentNode::same-returns-in_default
lent_node::LentNode::same-returns-in_default t c = bare-same c.args.self.now c.args.other.now c.is_bare.result c.in_default.ensures (c.has_entry_of.ensures.0 c.if-not-has_entry_of.false) c.is_bare.ensures.bare c.is_bare.ensures.full

pub lent_node::LentNode::same-returns-in-None : goal.lent_node::LentNode::same-returns-in-None
lent_node::LentNode::same-returns-in-None t c =
    same-both _ _ c.args.self.now.top c.args.other.now.top c.in-Some.kids [] _ c.in-Some.ensures c.in-None.ensures (c.has_entry_of.ensures.0 c.if-not-has_entry_of.false) (none-same c.in-Some.kids c.in-Some.kids [] _ refl refl c.is_none.ensures)

pub lent_node::LentNode::same-returns-in-Some-children : goal.lent_node::LentNode::same-returns-in-Some-children
lent_node::LentNode::same-returns-in-Some-children t c =
    same-both _ _ c.args.self.now.top c.args.other.now.top c.in-Some.kids c.in-Some-children.others _ c.in-Some.ensures c.in-Some-children.ensures (c.has_entry_of.ensures.0 c.if-not-has_entry_of.false) c.same.ensures

pub lent_kids::LentKids::same-loop-name-init : goal.lent_kids::LentKids::same-loop-name-init
lent_kids::LentKids::same-loop-name-init t c =
    (same-start c.args.self.now c.args.other.now c.iter-kids.result c.iter-others.result c.iter-kids.ensures.ordered c.iter-others.ensures.ordered c.iter-kids.ensures.all c.iter-others.ensures.all, ([], c.iter-kids.ensures.all))

pub lent_kids::LentKids::same-loop-name-preserved : goal.lent_kids::LentKids::same-loop-name-preserved
lent_kids::LentKids::same-loop-name-preserved t c = (
  same-step c.loop-name.kids c.next.new.self c.loop-name.others c.next-in-Some.new.self c.in-Some.name.now c.in-Some-next.other_name.now c.in-Some.kid c.in-Some-next.other_kid c.loop-name.invariant.0 c.in-Some.ensures c.in-Some-next.ensures (c.same.ensures.0 c.if-not-same.false) (c.same-in-Some-next.ensures.0 c.if-not-same-2.false),
  (c.loop-name.invariant.1.0 ++ (c.in-Some.name.now, c.in-Some.kid) ∷ [], passed-more c.args.self.now c.loop-name.invariant.1.0 c.next.new.self c.loop-name.kids c.in-Some.name.now c.in-Some.kid c.loop-name.invariant.1.1 c.in-Some.ensures),
)
