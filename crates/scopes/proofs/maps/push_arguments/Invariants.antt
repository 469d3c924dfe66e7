use Rattle.std.proofs.Common.{◌≡◌, ◌++◌, map}
use Rattle.scopes.specs.PrivateMaps.{arg_row_of, argument_rows}
use Rattle.scopes.specs.Scope.{HaveNames}
use Rattle.scopes.proofs.maps.push_arguments.Given as goal

abbrev pub invariant-loop-name : goal.invariant-loop-name
invariant-loop-name l =
    (l.rows ++ argument_rows l.variables l.name-iterator ≡ l.initial.rows ++ argument_rows l.variables l.initial.name-iterator) × HaveNames (map arg_row_of l.name-iterator)
