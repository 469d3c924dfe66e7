use Rattle.std.proofs.Common.{◌≡◌, ◌++◌, ◌+◌, List, ℕ, length}
use Rattle.trees.specs.Rows.{lent_rows}
use Rattle.trees.specs.PrivateNode.{NodeValue, height_of, rows_under}
use Rattle.trees.specs.PrivateWalk.{rows_of}
use Rattle.trees.proofs.+listing.Given as goal

abbrev pub decreases-lent_node::LentNode::push_rows : goal.decreases-lent_node::LentNode::push_rows
decreases-lent_node::LentNode::push_rows l = l.self.now.height + l.self.now.height + 1

abbrev pub decreases-lent_kids::LentKids::push_rows : goal.decreases-lent_kids::LentKids::push_rows
decreases-lent_kids::LentKids::push_rows l = height_of l.self.now + height_of l.self.now + 1

-- the rows so far and those of the children that are left
abbrev pub invariant-lent_kids::LentKids::push_rows-loop-name : goal.invariant-lent_kids::LentKids::push_rows-loop-name
invariant-lent_kids::LentKids::push_rows-loop-name l = (lent_rows l.rows.items ++ rows_under l.at (rows_of l.kids) ≡ lent_rows l.initial.rows.items ++ rows_under l.at (rows_of l.self)) × ((before : List (List ℕ × NodeValue)) × (before ++ l.kids ≡ l.self))

abbrev pub decreases-lent_kids::LentKids::push_rows-loop-name : goal.decreases-lent_kids::LentKids::push_rows-loop-name
decreases-lent_kids::LentKids::push_rows-loop-name l = length l.kids
