use Rattle.std.proofs.Common.{drop}
use Rattle.dockerfile.proofs.OrderFacts.{GoesOn}
use Rattle.dockerfile.proofs.order.ascend.Given as goal

abbrev pub invariant-loop-instruction : goal.invariant-loop-instruction
invariant-loop-instruction l = GoesOn l.instructions (drop l.instruction-index l.instructions) l.last
