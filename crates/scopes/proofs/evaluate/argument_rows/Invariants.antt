use Rattle.std.proofs.Common.{◌≡◌, drop}
use Rattle.std.specs.List.{list_all}
use Rattle.std.specs.FinMap.{get as arg_value}
use Rattle.plain.specs.VariableName.{is_variable_name}
use Rattle.instructions.specs.Instruction.{argument_names}
use Rattle.scopes.specs.Scope.{value_in}
use Rattle.scopes.specs.Evaluate.{default_fault}
use Rattle.scopes.specs.PrivateEvaluate.{argument_row}
use Rattle.scopes.proofs.EvaluateLemmas.{IsSoFar}
use Rattle.scopes.proofs.evaluate.argument_rows.Given as goal

abbrev pub invariant-loop-argument : goal.invariant-loop-argument
invariant-loop-argument l =
    (list_all is_variable_name (argument_names (drop l.argument-index l.arguments)) ≡ list_all is_variable_name (argument_names l.arguments))
    × IsSoFar (argument_row (value_in l.before) (arg_value l.args) (value_in l.outer)) (λ a. default_fault (value_in l.before) (arg_value l.args a.name) a.default) l.arguments (drop l.argument-index l.arguments) l.saying.line l.saying.fault
