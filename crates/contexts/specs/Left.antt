-- What a tree lacks of a list of paths (own): the shortest paths that aren't there. All below such a path is left out with it.
use Rattle.std.specs.Prelude.{◌≡◌, ◌↔◌, ℕ, Bool, true, false, List, is_some}
use Rattle.std.specs.List.{list_any}
use Rattle.std.specs.List.Sorted.{IsStrictlySortedBy}
use Rattle.std.specs.FinMap.{get}
use Rattle.std.specs.Ordering.{eq_by_cmp}
use Rattle.paths.specs.Fronts.{is_front}
use Rattle.paths.specs.Order.{path_cmp}
use Rattle.paths.specs.Path.{is_at_or_under}
use Rattle.trees.specs.TreeMap.{TreeMap}

-- A path is a gap of a tree: it isn't there, and all directories that it lies in are.
pub record IsGap (tree : TreeMap) (path : List (List ℕ)) : Type 0 where
  pub lacks : is_some (get tree path) ≡ false
  pub within : (front : List (List ℕ)) → is_front front path ≡ true → is_some (get tree front) ≡ true

-- whether a path is among some
abbrev pub has_path : List (List (List ℕ)) → List (List ℕ) → Bool
has_path paths path = list_any (eq_by_cmp path_cmp path) paths

-- whether one of some paths is at a path or below it
abbrev pub is_over : List (List (List ℕ)) → List (List ℕ) → Bool
is_over paths path = list_any (λ other. is_at_or_under other path) paths

-- whether a path is one of some or lies below one
abbrev pub is_covered : List (List (List ℕ)) → List (List ℕ) → Bool
is_covered paths path = list_any (λ top. is_at_or_under path top) paths

-- What a tree lacks of the paths that are listed: its gaps at one of them or above it, each once, in the order of paths.
pub record AreLeftOut (tree : TreeMap) (listed left : List (List (List ℕ))) : Type 0 where
  pub ordered : IsStrictlySortedBy path_cmp left
  pub each : (path : List (List ℕ)) → (has_path left path ≡ true) ↔ (IsGap tree path × (is_over listed path ≡ true))
