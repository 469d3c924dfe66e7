use Rattle.std.proofs.Common.{◌≡◌, ◌++◌, drop}
use Rattle.stages.specs.Before.{stage_names}
use Rattle.stages.proofs.names.stage_names.Given as goal

abbrev pub invariant-loop-instruction : goal.invariant-loop-instruction
invariant-loop-instruction l = l.names ++ stage_names (drop l.instruction-index l.instructions) ≡ stage_names l.file
