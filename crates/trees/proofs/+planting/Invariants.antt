use Rattle.std.proofs.Common.{◌+◌}
use Rattle.trees.specs.PrivateNode.{height_of}
use Rattle.trees.proofs.+planting.Given as goal

abbrev pub decreases-node::Node::plant : goal.decreases-node::Node::plant
decreases-node::Node::plant l = l.self.now.height + l.self.now.height + 1

abbrev pub decreases-inner::Inner::plant : goal.decreases-inner::Inner::plant
decreases-inner::Inner::plant l = l.self.now.height + l.self.now.height

abbrev pub decreases-children::Children::plant : goal.decreases-children::Children::plant
decreases-children::Children::plant l = height_of l.self.now + height_of l.self.now + 1
