use Rattle.std.proofs.Common.{drop}
use Rattle.expand.specs.Expanding.{unexpanded}
use Rattle.scopes.specs.Evaluate.{assigned_variable}
use Rattle.scopes.specs.Scope.{value_in}
use Rattle.scopes.proofs.EvaluateLemmas.{IsSoFar}
use Rattle.scopes.proofs.evaluate.assigned_variables.Given as goal

abbrev pub invariant-loop-assignment : goal.invariant-loop-assignment
invariant-loop-assignment l =
    IsSoFar (assigned_variable (value_in l.before)) (λ a. unexpanded (value_in l.before) a.value) l.assignments (drop l.assignment-index l.assignments) l.setting.variables l.setting.fault
