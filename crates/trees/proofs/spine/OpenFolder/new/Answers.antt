use Rattle.std.proofs.Common.{ap}
use Rattle.trees.specs.PrivateNode.{lists_of}
use Rattle.trees.proofs.PartedSteps.{parted-none}
use Rattle.trees.proofs.spine.OpenFolder.new.Goals as goal

pub invariant_of-result : goal.invariant_of-result
invariant_of-result c = parted-none (lists_of c.new.result.items) c.new-2.result.items (ap lists_of c.new.ensures.items) c.new-2.ensures.items
