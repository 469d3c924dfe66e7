use Rattle.std.proofs.Common.{◌≡◌, ◌++◌, map}
use Rattle.scopes.specs.PrivateMaps.{env_row_of, variable_rows}
use Rattle.scopes.specs.Scope.{HaveNames}
use Rattle.scopes.proofs.maps.push_variables.Given as goal

abbrev pub invariant-loop-name : goal.invariant-loop-name
invariant-loop-name l =
    (l.rows ++ variable_rows l.name-iterator ≡ l.initial.rows ++ variable_rows l.initial.name-iterator) × HaveNames (map env_row_of l.name-iterator)
