use Rattle.lowering.proofs.StepFacts.{StepsSoFar}
use Rattle.lowering.proofs.steps.lower_steps.Given as goal

abbrev pub invariant-loop-step : goal.invariant-loop-step
invariant-loop-step l =
    StepsSoFar l.fn.graph l.graph l.tips l.fn.base l.initial.step-iterator.rest.items l.step-iterator.rest.items l.last
