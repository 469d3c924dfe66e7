use Rattle.std.proofs.Common.{◌+◌}
use Rattle.trees.specs.PrivateNode.{height_of}
use Rattle.trees.proofs.+filling.Given as goal

abbrev pub decreases-node::Node::fill : goal.decreases-node::Node::fill
decreases-node::Node::fill l = l.self.now.height + l.self.now.height + 1

abbrev pub decreases-inner::Inner::fill : goal.decreases-inner::Inner::fill
decreases-inner::Inner::fill l = l.self.now.height + l.self.now.height

abbrev pub decreases-children::Children::fill : goal.decreases-children::Children::fill
decreases-children::Children::fill l = height_of l.self.now + height_of l.self.now + 1
