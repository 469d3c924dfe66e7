-- The names of an environment's variables.
use Rattle.std.specs.Prelude.{◌≡◌, ℕ, true, List, map}
use Rattle.std.specs.List.{list_all}
use Rattle.plain.specs.VariableName.{is_variable_name}
use Rattle.plain.specs.declared.variable.Variable.{Variable}

-- the names of some variables, in their order
abbrev pub names_of : List Variable → List (List ℕ)
names_of variables = map (λ v. v.name) variables

-- all that these variables are called are names
abbrev pub HaveNames : List Variable → Type 0
HaveNames variables = list_all is_variable_name (names_of variables) ≡ true
