-- What names have values, and RUN's environment, by the declarations so far in their order. Those of a base image's ENV come first, or
-- those of the stage that a stage begins with. Nothing here knows how a scope is stored.
use Rattle.std.specs.Prelude.{◌≡◌, ℕ, Bool, true, not, ◌&&◌, List, [], ◌∷◌, ◌++◌, map, filter, Option, Some, None, option_map, is_some, if◌then◌else◌}
use Rattle.std.specs.List.{filter_map, list_all, list_any}
use Rattle.std.specs.Str.{bytes_eq}
use Rattle.scopes.specs.declared.declaration.Declaration.{Declaration}
use Rattle.scopes.specs.declared.declaration.Declaration.TheVariants.{Env, Arg}
use Rattle.plain.specs.VariableName.{is_variable_name}
use Rattle.plain.specs.declared.variable.Variable.{Variable}

-- the first value if there is one, else the second
abbrev pub or_else : Option (List ℕ) → Option (List ℕ) → Option (List ℕ)
or_else (Some text) other = Some text
or_else None other = other

-- what a declaration of the name m gives, where the name n that is asked for is m
abbrev pub where_same : List ℕ → List ℕ → Option (List ℕ) → Option (List ℕ)
where_same n m value = if bytes_eq n m then value else None

-- the value that the last ENV of a name gives it, also of two that stand on one line (own); none where no ENV names it
abbrev pub last_env : List ℕ → List Declaration → Option (List ℕ)
last_env n [] = None
last_env n (Env m text ∷ ds) = or_else (last_env n ds) (where_same n m (Some text))
last_env n (Arg m value ∷ ds) = last_env n ds

-- the value that the last ARG of a name gives it, of those that give one, also of two that stand on one line: an ARG that has no
-- value leaves the name as it was (own)
abbrev pub last_arg : List ℕ → List Declaration → Option (List ℕ)
last_arg n [] = None
last_arg n (Env m text ∷ ds) = last_arg n ds
last_arg n (Arg m value ∷ ds) = or_else (last_arg n ds) (where_same n m value)

-- the value of a name: an ENV of it beats every ARG of it, whatever their order; none where neither gives one (Dockerfile
-- reference, using ARG variables)
abbrev pub value_in : List Declaration → List ℕ → Option (List ℕ)
value_in ds n = or_else (last_env n ds) (last_arg n ds)

-- the names that ENVs set, one for each ENV
abbrev pub env_names : List Declaration → List (List ℕ)
env_names [] = []
env_names (Env n text ∷ ds) = n ∷ env_names ds
env_names (Arg n value ∷ ds) = env_names ds

-- the names that ARGs declare, with a value or without, one for each ARG
abbrev pub arg_names : List Declaration → List (List ℕ)
arg_names [] = []
arg_names (Env n text ∷ ds) = arg_names ds
arg_names (Arg n value ∷ ds) = n ∷ arg_names ds

-- the names other than one
abbrev pub without : List ℕ → List (List ℕ) → List (List ℕ)
without n ns = filter (λ m. not (bytes_eq n m)) ns

-- each name once, in the order in which they come first
abbrev pub firsts : List (List ℕ) → List (List ℕ)
firsts [] = []
firsts (n ∷ ns) = n ∷ without n (firsts ns)

-- a row of the environment, where the name has a value
abbrev pub env_row : List ℕ → Option (List ℕ) → Option Variable
env_row n value = option_map (λ text. record { name = n; value = text }) value

-- the environment of RUN: the names that ENVs set, in the order in which they came first, with their last values; then the
-- names that have a value by an ARG and are set by no ENV, in the order in which they were first declared, an ARG without a
-- value counting as a declaration. No PATH is added (Dockerfile reference, ENV and ARG; the order and the PATH: own)
unfoldable pub run_env : List Declaration → List Variable
run_env ds =
    filter_map (λ n. env_row n (last_env n ds)) (firsts (env_names ds))
    ++ filter_map (λ n. if is_some (last_env n ds) then None else env_row n (last_arg n ds)) (firsts (arg_names ds))

-- a list that means the same as a list, now and after any further lines: one ENV for each name that ENVs set, in the order in
-- which these names came first, with its last value; then one ARG for each name that ARGs declare, in the order in which these
-- were first declared, with the last value that one gave, if any
unfoldable pub kept : List Declaration → List Declaration
kept ds =
    filter_map (λ n. option_map (λ text. Env n text) (last_env n ds)) (firsts (env_names ds))
    ++ map (λ n. Arg n (last_arg n ds)) (firsts (arg_names ds))

-- the name of a declaration
abbrev pub name_of : Declaration → List ℕ
name_of (Env n text) = n
name_of (Arg n value) = n

-- the names of declarations, one for each
abbrev pub names_in : List Declaration → List (List ℕ)
names_in ds = map name_of ds

-- no two of the names are the same
abbrev pub names_differ : List (List ℕ) → Bool
names_differ [] = true
names_differ (n ∷ ns) = not (list_any (bytes_eq n) ns) && names_differ ns

-- all names of declarations are names of variables, as the crate `plain` has them
abbrev pub HaveNames : List Declaration → Type 0
HaveNames ds = list_all is_variable_name (names_in ds) ≡ true
