use Rattle.std.proofs.Common.{◌+◌}
use Rattle.trees.specs.PrivateNode.{height_of}
use Rattle.trees.proofs.+cutting.Given as goal

abbrev pub decreases-node::Node::cut : goal.decreases-node::Node::cut
decreases-node::Node::cut l = l.self.now.height + l.self.now.height + 1

abbrev pub decreases-inner::Inner::cut : goal.decreases-inner::Inner::cut
decreases-inner::Inner::cut l = l.self.now.height + l.self.now.height

abbrev pub decreases-children::Children::cut : goal.decreases-children::Children::cut
decreases-children::Children::cut l = height_of l.self.now + height_of l.self.now + 1
