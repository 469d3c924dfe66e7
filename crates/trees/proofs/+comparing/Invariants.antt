use Rattle.std.proofs.Common.{◌≡◌, ◌++◌, ◌+◌, ◌↔◌, List, ℕ, length}
use Rattle.trees.specs.PrivateNode.{NodeValue, kid_maps, joined, height_of}
use Rattle.trees.proofs.+comparing.Given as goal

-- the maps stand for the same where the children that are left are the same
abbrev pub invariant-lent_kids::LentKids::same-loop-name : goal.invariant-lent_kids::LentKids::same-loop-name
invariant-lent_kids::LentKids::same-loop-name l = ((joined l.self ≡ joined l.other) ↔ (kid_maps l.kids ≡ kid_maps l.others)) × ((before : List (List ℕ × NodeValue)) × (before ++ l.kids ≡ l.self))

abbrev pub decreases-lent_kids::LentKids::same-loop-name : goal.decreases-lent_kids::LentKids::same-loop-name
decreases-lent_kids::LentKids::same-loop-name l = length l.kids

abbrev pub decreases-lent_node::LentNode::same : goal.decreases-lent_node::LentNode::same
decreases-lent_node::LentNode::same l = l.self.now.height + l.self.now.height + 1

abbrev pub decreases-lent_kids::LentKids::same : goal.decreases-lent_kids::LentKids::same
decreases-lent_kids::LentKids::same l = height_of l.self.now + height_of l.self.now + 1
