use Rattle.std.proofs.Common.{◌≡◌, drop}
use Rattle.lacking.specs.Missing.{missed_in}
use Rattle.lacking.proofs.missing.missed_in.Given as goal

-- the instructions that are left decide
abbrev pub invariant-loop-step : goal.invariant-loop-step
invariant-loop-step l = missed_in l.trees l.line l.steps ≡ missed_in l.trees l.line (drop l.step-index l.steps)
