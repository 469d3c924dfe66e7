use Rattle.std.proofs.Common.{◌≡◌, ◌≤◌, ◌+◌, drop, length}
use Rattle.stages.specs.Before.{stage_names}
use Rattle.stages.proofs.target.stage_count.Given as goal

abbrev pub invariant-loop-instruction : goal.invariant-loop-instruction
invariant-loop-instruction l = record {
  few : l.count ≤ l.instruction-index;
  all : l.count + length (stage_names (drop l.instruction-index l.instructions)) ≡ length (stage_names l.instructions);
}
