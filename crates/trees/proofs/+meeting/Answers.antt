use Rattle.std.proofs.Common.{◌∙◌, sym, refl, subst, [], ◌∷◌, ◌++◌, List, ℕ, Some, None}
use Rattle.trees.specs.PrivateNode.{NodeValue, joined}
use Rattle.trees.specs.PrivateCopy.{MeetInDirectories}
use Rattle.trees.proofs.KidLists.{passed-more}
use Rattle.trees.proofs.MeetSteps.{kids-apart, kids-meet, meet-step, meet-none, none-meets}
use Rattle.trees.proofs.BelowSteps.{meets-none, meets-nothing, meets-below}
use Rattle.trees.proofs.+meeting.Goals as goal

pub lent_kids::LentKids::meets-loop-name-preserved-in-Some-get : goal.lent_kids::LentKids::meets-loop-name-preserved-in-Some-get
lent_kids::LentKids::meets-loop-name-preserved-in-Some-get t c = (
  λ h. c.loop-name.invariant.0
      (meet-step c.args.self.now c.loop-name.others c.next.new.self c.in-Some.name.now c.in-Some.kid (Some c.in-Some-get.own) c.in-Some.ensures c.in-Some-get.ensures
      (kids-meet c.in-Some-get.own c.in-Some.kid (sym c.is_directory.ensures ∙ c.if-not-is_directory.false) (sym c.is_directory-else-not-is_directory.ensures ∙ c.if-not-is_directory-2.false) (c.meets.ensures c.if-meets.false)) h),
  (c.loop-name.invariant.1.0 ++ (c.in-Some.name.now, c.in-Some.kid) ∷ [], passed-more c.args.other.now c.loop-name.invariant.1.0 c.next.new.self c.loop-name.others c.in-Some.name.now c.in-Some.kid c.loop-name.invariant.1.1 c.in-Some.ensures),
)

pub lent_kids::LentKids::meets-loop-name-preserved : goal.lent_kids::LentKids::meets-loop-name-preserved
lent_kids::LentKids::meets-loop-name-preserved t c = (
  λ h. c.loop-name.invariant.0 (meet-step c.args.self.now c.loop-name.others c.next.new.self c.in-Some.name.now c.in-Some.kid None c.in-Some.ensures c.in_default-get.ensures (kids-apart (Some c.in-Some.kid)) h),
  (c.loop-name.invariant.1.0 ++ (c.in-Some.name.now, c.in-Some.kid) ∷ [], passed-more c.args.other.now c.loop-name.invariant.1.0 c.next.new.self c.loop-name.others c.in-Some.name.now c.in-Some.kid c.loop-name.invariant.1.1 c.in-Some.ensures),
)

pub lent_kids::LentKids::meets-returns : goal.lent_kids::LentKids::meets-returns
lent_kids::LentKids::meets-returns t c = λ f.
    c.loop-name.invariant.0 (subst (λ (l : List (List ℕ × NodeValue)). MeetInDirectories (joined c.args.self.now) (joined l)) (sym c.in_default.ensures.0) (meet-none c.args.self.now))

pub lent_kids::LentKids::meets-returns-then-is_none : goal.lent_kids::LentKids::meets-returns-then-is_none
lent_kids::LentKids::meets-returns-then-is_none t c = λ f. none-meets c.args.self.now c.args.other.now (c.is_none.ensures.0 c.if-is_none.true)

pub lent_node::LentNode::meets-returns-in_default : goal.lent_node::LentNode::meets-returns-in_default
lent_node::LentNode::meets-returns-in_default t c = λ _. subst (λ (n : NodeValue). MeetInDirectories n.below c.args.other.now.below) c.in_default.ensures (meets-none [] _ refl)

pub lent_node::LentNode::meets-returns-in-None : goal.lent_node::LentNode::meets-returns-in-None
lent_node::LentNode::meets-returns-in-None t c = λ _. subst (λ (n : NodeValue). MeetInDirectories c.args.self.now.below n.below) c.in-None.ensures (meets-nothing _ [] refl)

pub lent_node::LentNode::meets-returns-in-Some-children : goal.lent_node::LentNode::meets-returns-in-Some-children
lent_node::LentNode::meets-returns-in-Some-children t c =
    λ apart. meets-below c.args.self.now c.args.other.now c.in-Some.kids c.in-Some-children.others c.in-Some.ensures c.in-Some-children.ensures (c.meets.ensures apart)
