use Rattle.std.proofs.Common.{◌≡◌, ◌++◌, drop, map}
use Rattle.expand.specs.Reasons.{rejection_of}
use Rattle.checks.proofs.checking.rejections.Given as goal

abbrev pub invariant-loop-refusal : goal.invariant-loop-refusal
invariant-loop-refusal l = l.faults ++ map rejection_of (drop l.refusal-index l.refusals) ≡ map rejection_of l.refusals
