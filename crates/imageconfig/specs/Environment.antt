-- The environment of an image: its variables, in the order in which they came first (OCI image specification, Env).
use Rattle.std.specs.Prelude.{◌≡◌, true, List, map}
use Rattle.std.specs.List.{list_all}
use Rattle.plain.specs.VariableName.{is_variable_name}
use Rattle.plain.specs.declared.variable.Variable.{Variable}
use Rattle.scopes.specs.Scope.{names_differ}
use Rattle.imageconfig.specs.Rows.{Row, names_of}

-- each name is one that an operating system takes, and no two are the same
pub record IsEnvironment (rows : List Row) : Type 0 where
  pub fit : list_all is_variable_name (names_of rows) ≡ true
  pub differ : names_differ (names_of rows) ≡ true

-- a variable as a row
abbrev pub row_of : Variable → Row
row_of variable = (variable.name, variable.value)

-- rows as variables
abbrev pub variables_of : List Row → List Variable
variables_of rows = map (λ row. record { name = row.0; value = row.1 }) rows
