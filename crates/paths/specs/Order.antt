-- How paths are ordered: component by component, each component by its bytes, a front before what it is a front of
-- (`/a` before `/a/b` before `/ab`). It is the order of the keys of every tree, and what a `FinMap` of paths takes.
use Rattle.std.specs.Prelude.{ℕ, Bool, List, nat_eq}
use Rattle.std.specs.declared.cmp.Ordering.{Ordering}
use Rattle.std.specs.Ordering.{nat_cmp}
use Rattle.std.specs.Cmp.Lexicographic.{pointwise, slice_cmp}

-- what `==` answers: whether the two have the same components
abbrev pub path_eq : List (List ℕ) → List (List ℕ) → Bool
path_eq = pointwise (pointwise nat_eq)

-- how the names in one directory are ordered: by their bytes
abbrev pub name_cmp : List ℕ → List ℕ → Ordering
name_cmp = slice_cmp nat_cmp

-- what `cmp` answers
abbrev pub path_cmp : List (List ℕ) → List (List ℕ) → Ordering
path_cmp = slice_cmp name_cmp
