-- What a path is: the list of its components, each as its bytes, from the root down. The root has none.
--
-- A component may have any character but `/`, NUL too; `.` and `..` are no components of a path but words of its text. That
-- a component is UTF-8 is kept by its type and not said again here. The two limits are our own, 255 bytes being that of
-- Linux's file systems. Of the bytes below 46 is `.` and 47 is `/`.
use Rattle.std.specs.Prelude.{◌≡◌, ◌≤◌, ◌-◌, ◌==◌, ℕ, Bool, true, false, ◌&&◌, Option, Some, None, List, [], ◌∷◌, ◌++◌, length, take, not, nat_le, nat_eq}
use Rattle.std.specs.List.{list_all, starts_with}
use Rattle.std.specs.Cmp.Lexicographic.{pointwise}
use Rattle.plain.specs.Limits.{most_components, most_component_bytes}

-- a piece of a text that names nothing: empty, or `.`
abbrev pub is_idle : List ℕ → Bool
is_idle [] = true
is_idle (b ∷ []) = b == 46
is_idle (b ∷ c ∷ bs) = false

-- the piece `..`, which climbs
abbrev pub is_up : List ℕ → Bool
is_up [] = false
is_up (b ∷ []) = false
is_up (b ∷ c ∷ []) = b == 46 && c == 46
is_up (b ∷ c ∷ d ∷ bs) = false

-- no `/` among the bytes
abbrev pub is_whole : List ℕ → Bool
is_whole piece = list_all (λ b. not (b == 47)) piece

-- a piece that names something, as std's `Component::Normal` does: neither empty nor `.` nor `..`
abbrev pub is_normal : List ℕ → Bool
is_normal piece = not (is_idle piece) && not (is_up piece)

-- a component's bytes: a piece that names something, with no `/` among its bytes
abbrev pub is_name : List ℕ → Bool
is_name piece = is_normal piece && is_whole piece

-- no component is longer than 255 bytes (own)
abbrev pub are_short : List (List ℕ) → Bool
are_short p = list_all (λ c. nat_le (length c) most_component_bytes) p

-- a path: names only, within the limits of 64 components and of 255 bytes each (own)
pub record IsClean (p : List (List ℕ)) : Type 0 where
  pub names : list_all is_name p ≡ true
  pub short : are_short p ≡ true
  pub few : length p ≤ most_components

-- the path without its last component; the root stays the root
abbrev pub climbed : List (List ℕ) → List (List ℕ)
climbed p = take (length p - 1) p

-- the directory that a path stands in; the root stands in none
abbrev pub parent_of : List (List ℕ) → Option (List (List ℕ))
parent_of [] = None
parent_of (c ∷ cs) = Some (climbed (c ∷ cs))

-- whether p is top or lies below it: top's components are p's first ones
abbrev pub is_at_or_under : List (List ℕ) → List (List ℕ) → Bool
is_at_or_under p top = starts_with (pointwise nat_eq) p top

-- a `/` before each component
abbrev pub rooted : List (List ℕ) → List ℕ
rooted [] = []
rooted (c ∷ cs) = 47 ∷ (c ++ rooted cs)

-- the text of a path: `/` for the root, else a `/` before each component
abbrev pub text_of : List (List ℕ) → List ℕ
text_of [] = 47 ∷ []
text_of (c ∷ cs) = rooted (c ∷ cs)
