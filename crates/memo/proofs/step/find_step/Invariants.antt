use Rattle.std.proofs.Common.{◌≡◌, ◌<◌, ℕ, Some, IsTrue, get_or}
use Rattle.std.specs.Prelude.{slice_get}
use Rattle.memo.specs.declared.step.Step.{Step}
use Rattle.memo.specs.PrivateGeneration.{IsFor}
use Rattle.memo.specs.PrivateSought.{inputs_of}
use Rattle.memo.proofs.step.find_step.Given as goal

-- of the numbers so far none is that of a step for the operation on these trees
abbrev pub invariant-loop-number : goal.invariant-loop-number
invariant-loop-number l = IsTrue l.walks → (k : ℕ) (step : Step) → k < l.number-index → slice_get l.steps (get_or l.numbers k 0) ≡ Some step
    → ¬ IsFor l.kept l.sought.op.now (inputs_of l.sought) step
