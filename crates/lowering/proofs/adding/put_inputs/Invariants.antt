use Rattle.lowering.proofs.InputFacts.{InputsSoFar}
use Rattle.lowering.proofs.adding.put_inputs.Given as goal

abbrev pub invariant-loop-origin : goal.invariant-loop-origin
invariant-loop-origin l =
    InputsSoFar l.fn.graph l.graph l.tips l.line l.fn.base l.initial.origin-iterator.rest.items l.origin-iterator.rest.items l.inputs
