-- What declarations say of names, as pairs of a name and a value or none: ENVs and ARGs apart.
use Rattle.std.specs.Prelude.{ℕ, List, [], ◌∷◌, Option, Some, None, if◌then◌else◌}
use Rattle.std.specs.Str.{bytes_eq}
use Rattle.scopes.specs.Scope.{or_else, where_same}
use Rattle.scopes.specs.declared.declaration.Declaration.{Declaration}
use Rattle.scopes.specs.declared.declaration.Declaration.TheVariants.{Env, Arg}

-- what was said of names, in order
abbrev pub Said : Type 0
Said = List (List ℕ × Option (List ℕ))

-- what ENVs say
abbrev pub env_said : List Declaration → Said
env_said [] = []
env_said (Env n text ∷ ds) = (n, Some text) ∷ env_said ds
env_said (Arg n value ∷ ds) = env_said ds

-- what ARGs say
abbrev pub arg_said : List Declaration → Said
arg_said [] = []
arg_said (Env n text ∷ ds) = arg_said ds
arg_said (Arg n value ∷ ds) = (n, value) ∷ arg_said ds

-- the last value that a name is given
abbrev pub last : List ℕ → Said → Option (List ℕ)
last n [] = None
last n (p ∷ ps) = or_else (last n ps) (where_same n p.0 p.1)

-- what is said of other names
abbrev pub apart : List ℕ → Said → Said
apart n [] = []
apart n (p ∷ ps) = if bytes_eq n p.0 then apart n ps else p ∷ apart n ps

-- each name once, in the order in which they come first, with the last value that it is given
abbrev pub settled : Said → Said
settled [] = []
settled (p ∷ ps) = (p.0, or_else (last p.0 ps) p.1) ∷ apart p.0 (settled ps)

-- a name is given a value, or left as it is: its place is the one that it has, or the end
abbrev pub put : List ℕ → Option (List ℕ) → Said → Said
put n value [] = (n, value) ∷ []
put n value (p ∷ ps) = if bytes_eq n p.0 then (p.0, or_else value p.1) ∷ ps else p ∷ put n value ps

-- the value of the first pair of a name
abbrev pub found : List ℕ → Said → Option (Option (List ℕ))
found n [] = None
found n (p ∷ ps) = if bytes_eq n p.0 then Some p.1 else found n ps

-- the value that is there, or none
abbrev pub flat : Option (Option (List ℕ)) → Option (List ℕ)
flat None = None
flat (Some value) = value
