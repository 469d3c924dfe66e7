use Rattle.std.proofs.Common.{◌≡◌, ◌++◌, ◌+◌, List, ℕ, length}
use Rattle.trees.specs.PrivateNode.{NodeValue}
use Rattle.trees.proofs.+sounding.Given as goal

abbrev pub decreases-lent_node::LentNode::is_deeper : goal.decreases-lent_node::LentNode::is_deeper
decreases-lent_node::LentNode::is_deeper l = l.most + l.most + l.most + 2

abbrev pub decreases-lent_kids::LentKids::is_deeper : goal.decreases-lent_kids::LentKids::is_deeper
decreases-lent_kids::LentKids::is_deeper l = l.most + l.most + l.most

-- the children gone through and those that are left are all of them
abbrev pub invariant-lent_kids::LentKids::is_deeper-loop-name : goal.invariant-lent_kids::LentKids::is_deeper-loop-name
invariant-lent_kids::LentKids::is_deeper-loop-name l = (before : List (List ℕ × NodeValue)) × (before ++ l.kids ≡ l.self)

abbrev pub decreases-lent_kids::LentKids::is_deeper-loop-name : goal.decreases-lent_kids::LentKids::is_deeper-loop-name
decreases-lent_kids::LentKids::is_deeper-loop-name l = length l.kids
