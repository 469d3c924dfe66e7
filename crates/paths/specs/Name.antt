-- The name of an entry in its directory, which is one component of a path.
use Rattle.std.specs.Prelude.{◌&&◌, ℕ, Bool, List, [], ◌∷◌, length, nat_le}
use Rattle.plain.specs.Limits.{most_component_bytes}
use Rattle.paths.specs.Path.{IsClean, is_name}

-- a component: neither empty nor `.` nor `..`, with no `/`, and of at most 255 bytes (own)
abbrev pub is_component : List ℕ → Bool
is_component name = is_name name && nat_le (length name) most_component_bytes

-- a component: a path may be made of it alone
abbrev pub IsComponent : List ℕ → Type 0
IsComponent name = IsClean (name ∷ [])
