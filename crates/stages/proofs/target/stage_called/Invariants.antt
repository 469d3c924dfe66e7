use Rattle.std.proofs.Common.{◌≡◌, ◌≤◌, drop}
use Rattle.stages.specs.Naming.{called_from, stage_called}
use Rattle.stages.specs.Before.{stage_names}
use Rattle.stages.proofs.target.stage_called.Given as goal

abbrev pub invariant-loop-instruction : goal.invariant-loop-instruction
invariant-loop-instruction l = record {
  few : l.number ≤ l.instruction-index;
  all : called_from l.number (stage_names (drop l.instruction-index l.instructions)) l.text ≡ stage_called (stage_names l.instructions) l.text;
}
