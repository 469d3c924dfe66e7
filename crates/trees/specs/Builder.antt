-- A tree that is built from rows that come in the order of a walk, one after another (own).
use Rattle.std.specs.Prelude.{◌≡◌, ℕ, Bool, true, not, ◌&&◌, Option, Some, None, Result, Ok, Err, List, [], ◌∷◌, if◌then◌else◌, refl}
use Rattle.std.specs.Coded.{Coded, code_by, coded×, coded_list, coded_ℕ, coded_option}
use Rattle.std.specs.Ordering.{is_lt}
use Rattle.plain.specs.declared.memory.Memory.{Memory}
use Rattle.paths.specs.Order.{path_cmp}
use Rattle.paths.specs.Fronts.{is_front}
use Rattle.trees.specs.contracts.entry.Entry as entries_of
use Rattle.trees.specs.TreeMap.{TreeMap, directory_meta, empty_tree, is_file}
use Rattle.trees.specs.Put.{placed}
use Rattle.trees.specs.Row.{Row}
use Rattle.trees.specs.Whole.{tree_of}
use Rattle.trees.specs.PrivateNode.{tree_code}

-- what is built so far, and the row that came last
pub record Built : Type 0 where
  pub tree : TreeMap
  pub last : Option Row

-- the code of what is built, as the pair of its parts
abbrev pub built_code : Coded Built
built_code =
    code_by (TreeMap × Option Row) (coded× tree_code (coded_option (coded× (coded_list (coded_list coded_ℕ)) entries_of.the_row.coded))) (λ b. (b.tree, b.last)) (λ p. record { tree = p.0; last = p.1 }) (λ _. refl)

-- no row came
abbrev pub none_built : Built
none_built = record { tree = empty_tree; last = None }

-- a path comes after that of a row, and doesn't lie below it if the row is a file's
abbrev pub goes_on : Row → List (List ℕ) → Bool
goes_on last path = is_lt (path_cmp last.0 path) && not (is_file (Some last.1) && is_front last.0 path)

-- whether a row may come next: its path goes on from that of the last row. Of none before it, any row may but a file that is to be the root
abbrev pub comes_next : Option Row → Row → Bool
comes_next None ([], entry) = not (is_file (Some entry))
comes_next None (name ∷ names, entry) = true
comes_next (Some last) row = goes_on last row.0

-- what is built once a row came: its entry is placed, with missing directories, 0755 and 0:0
abbrev pub with_row : Built → Row → Built
with_row built row = record { tree = placed directory_meta built.tree row.0 row.1; last = Some row }

-- what adding a row answers and does: it is added if it may come next, and else nothing changes; after want of memory no row is left
abbrev pub AddsRow : Built → Row → Built → Result Bool Memory → Type 0
AddsRow old row new (Ok added) = (added ≡ comes_next old.last row) × (new ≡ (if added then with_row old row else old))
AddsRow old row new (Err memory) = new ≡ none_built

-- rows each of which may come next when it comes, after a row or none
abbrev pub follow_from : Option Row → List Row → Bool
follow_from last [] = true
follow_from last (row ∷ rows) = comes_next last row && follow_from (Some row) rows

-- the last of these rows, or this one if there are none
abbrev pub last_from : Option Row → List Row → Option Row
last_from last [] = last
last_from last (row ∷ rows) = last_from (Some row) rows

-- this is built of these rows, which follow one another
pub record IsBuiltOf (rows : List Row) (built : Built) : Type 0 where
  pub follow : follow_from None rows ≡ true
  pub tree : built.tree ≡ tree_of rows
  pub last : built.last ≡ last_from None rows
