use Rattle.std.proofs.Common.{ap}
use Rattle.trees.specs.PrivateNode.{lists_of}
use Rattle.trees.proofs.GatheredSteps.{gathered-none}
use Rattle.trees.proofs.growing.Gathered.none.Goals as goal

pub invariant_of-result : goal.invariant_of-result
invariant_of-result c = gathered-none c.new-2.result.items (lists_of c.new.result.items) c.new-2.ensures.items (ap lists_of c.new.ensures.items)
