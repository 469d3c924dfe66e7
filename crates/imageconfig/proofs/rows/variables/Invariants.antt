use Rattle.std.proofs.Common.{◌≡◌, ◌++◌, true}
use Rattle.std.specs.List.{list_all}
use Rattle.plain.specs.VariableName.{is_variable_name}
use Rattle.imageconfig.specs.Environment.{variables_of}
use Rattle.imageconfig.specs.Rows.{names_of}
use Rattle.imageconfig.proofs.rows.variables.Given as goal

abbrev pub invariant-loop-name : goal.invariant-loop-name
invariant-loop-name l = (l.variables ++ variables_of l.name-iterator ≡ variables_of l.initial.name-iterator)
    × (list_all is_variable_name (names_of l.name-iterator) ≡ true)
