use Rattle.std.specs.FinMap.{get}
use Rattle.scopes.specs.Scope.{value_in}
use Rattle.evaluation.proofs.StepFacts.{NextSoFar}
use Rattle.evaluation.proofs.stage.evaluate_instructions.Given as goal

abbrev pub invariant-loop-resolved : goal.invariant-loop-resolved
invariant-loop-resolved l =
    NextSoFar (get l.given.args.now) (value_in l.given.outer.now) l.fn.progress l.initial.resolved-iterator.rest.items l.resolved-iterator.rest.items l.progress
