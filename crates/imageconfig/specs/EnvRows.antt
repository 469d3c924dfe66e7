-- The variables that ENVs set in a scope, as rows.
use Rattle.std.specs.Prelude.{List, [], ◌∷◌}
use Rattle.scopes.specs.declared.declaration.Declaration.{Declaration}
use Rattle.scopes.specs.declared.declaration.Declaration.TheVariants.{Env, Arg}
use Rattle.imageconfig.specs.Rows.{Row}

-- a row for each ENV, in their order; of what a scope keeps these are its variables, each once, with its last value
abbrev pub env_shown : List Declaration → List Row
env_shown [] = []
env_shown (Env name text ∷ ds) = (name, text) ∷ env_shown ds
env_shown (Arg name value ∷ ds) = env_shown ds
