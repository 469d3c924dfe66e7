use Rattle.std.proofs.Common.{◌≡◌, ◌≤◌, ◌+◌, drop}
use Rattle.titles.specs.Titles.{step_count}
use Rattle.titles.proofs.steps.step_count.Given as goal

abbrev pub invariant-loop-resolved : goal.invariant-loop-resolved
invariant-loop-resolved l = record {
  few : l.count ≤ l.resolved-index;
  all : l.count + step_count (drop l.resolved-index l.instructions) ≡ step_count l.instructions;
}
