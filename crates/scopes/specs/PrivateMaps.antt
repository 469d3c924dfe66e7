-- What a scope is seen as: the declarations that its two maps hold. What it keeps beside them is RUN's environment by them.
use Rattle.std.specs.Prelude.{◌≡◌, ℕ, Bool, List, ◌++◌, map, Option, None, IfSome, if◌then◌else◌}
use Rattle.std.specs.List.{filter_map}
use Rattle.named.specs.Rows.{has_row}
use Rattle.scopes.specs.Scope.{env_row, run_env}
use Rattle.scopes.specs.declared.declaration.Declaration.{Declaration}
use Rattle.scopes.specs.declared.declaration.Declaration.TheVariants.{Env, Arg}
use Rattle.plain.specs.declared.variable.Variable.{Variable}

-- the ENV of a row
abbrev pub env_row_of : List ℕ × List ℕ → Declaration
env_row_of row = Env row.0 row.1

-- the ARG of a row
abbrev pub arg_row_of : List ℕ × Option (List ℕ) → Declaration
arg_row_of row = Arg row.0 row.1

-- the ENV of each row of one map, then the ARG of each of the other
abbrev pub declared : List (List ℕ × List ℕ) → List (List ℕ × Option (List ℕ)) → List Declaration
declared variables arguments = map env_row_of variables ++ map arg_row_of arguments

-- the rows of RUN's environment that ENVs make
abbrev pub variable_rows : List (List ℕ × List ℕ) → List Variable
variable_rows variables = map (λ row. record { name = row.0; value = row.1 }) variables

-- the rows that an ARG makes, where its name is among those of ENVs or isn't
abbrev pub argument_row : Bool → List ℕ → Option (List ℕ) → Option Variable
argument_row is_set name value = if is_set then None else env_row name value

-- the rows that ARGs make beside those of ENVs
abbrev pub argument_rows : List (List ℕ × List ℕ) → List (List ℕ × Option (List ℕ)) → List Variable
argument_rows variables arguments = filter_map (λ row. argument_row (has_row row.0 variables) row.0 row.1) arguments

-- an environment that is kept is that of these declarations
abbrev pub IsEnvironmentOf : List Declaration → Option (List Variable) → Type 0
IsEnvironmentOf ds env = IfSome env (λ rows. rows ≡ run_env ds)
