use Rattle.std.proofs.Common.{◌≡◌, ◌++◌, ◌+◌, List, ℕ, length}
use Rattle.trees.specs.PrivateNode.{NodeValue, joined, height_of}
use Rattle.trees.specs.PrivateCopy.{MeetInDirectories}
use Rattle.trees.proofs.+meeting.Given as goal

abbrev pub decreases-lent_node::LentNode::meets : goal.decreases-lent_node::LentNode::meets
decreases-lent_node::LentNode::meets l = l.other.now.height + l.other.now.height + 1

abbrev pub decreases-lent_kids::LentKids::meets : goal.decreases-lent_kids::LentKids::meets
decreases-lent_kids::LentKids::meets l = height_of l.other.now + height_of l.other.now + 1

-- where those that are left meet in directories, all do
abbrev pub invariant-lent_kids::LentKids::meets-loop-name : goal.invariant-lent_kids::LentKids::meets-loop-name
invariant-lent_kids::LentKids::meets-loop-name l = (MeetInDirectories (joined l.self) (joined l.others) → MeetInDirectories (joined l.self) (joined l.other)) × ((before : List (List ℕ × NodeValue)) × (before ++ l.others ≡ l.other))

abbrev pub decreases-lent_kids::LentKids::meets-loop-name : goal.decreases-lent_kids::LentKids::meets-loop-name
decreases-lent_kids::LentKids::meets-loop-name l = length l.others
