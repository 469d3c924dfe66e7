use Rattle.std.proofs.Common.{◌≡◌, ◌++◌, ◌+◌, List, ℕ, length}
use Rattle.trees.specs.Copy.{placements}
use Rattle.trees.specs.PrivateNode.{NodeValue, height_of}
use Rattle.trees.specs.PrivateWalk.{rows_of}
use Rattle.trees.proofs.+changing.Given as goal

abbrev pub decreases-lent_node::LentNode::push_changes : goal.decreases-lent_node::LentNode::push_changes
decreases-lent_node::LentNode::push_changes l = l.self.now.height + l.self.now.height + 1

abbrev pub decreases-lent_kids::LentKids::push_changes : goal.decreases-lent_kids::LentKids::push_changes
decreases-lent_kids::LentKids::push_changes l = height_of l.self.now + height_of l.self.now + 1

-- the changes so far and those of the children that are left
abbrev pub invariant-lent_kids::LentKids::push_changes-loop-name : goal.invariant-lent_kids::LentKids::push_changes-loop-name
invariant-lent_kids::LentKids::push_changes-loop-name l = (l.changes.items ++ placements l.options l.at (rows_of l.kids) ≡ l.initial.changes.items ++ placements l.options l.at (rows_of l.self)) × ((before : List (List ℕ × NodeValue)) × (before ++ l.kids ≡ l.self))

abbrev pub decreases-lent_kids::LentKids::push_changes-loop-name : goal.decreases-lent_kids::LentKids::push_changes-loop-name
decreases-lent_kids::LentKids::push_changes-loop-name l = length l.kids
