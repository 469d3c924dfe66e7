use Rattle.std.proofs.Common.{◌≡◌, drop}
use Rattle.stages.specs.Resolved.{are_arguments}
use Rattle.stages.proofs.target.are_arguments.Given as goal

abbrev pub invariant-loop-instruction : goal.invariant-loop-instruction
invariant-loop-instruction l = are_arguments (drop l.instruction-index l.instructions) ≡ are_arguments l.instructions
