-- What is left of a walk: the children that aren't gone through yet, of the folder that was entered last and of each folder above it.
use Rattle.std.specs.Prelude.{◌≡◌, ◌<◌, ◌≤◌, ◌+◌, ◌-◌, ℕ, Bool, true, IsTrue, Option, Some, None, List, [], ◌∷◌, ◌++◌, length, take, drop, vec_capacity}
use Rattle.std.specs.List.{AllByRecursion}
use Rattle.std.specs.declared.vec.Vec.{Vec}
use Rattle.std.specs.FinMap.{entries}
use Rattle.std.specs.FinMap.Entries.{is_sorted}
use denote.Ref.{Bor}
use Rattle.plain.specs.Limits.{most_components}
use Rattle.paths.specs.Path.{IsClean}
use Rattle.paths.specs.Order.{name_cmp}
use Rattle.trees.specs.declared.entry.Entry.{Entry}
use Rattle.trees.specs.declared.lent_entry.LentEntry.{LentEntry}
use Rattle.trees.specs.Rows.{lent_names, entry_of}
use Rattle.trees.specs.Branch.{from_name}
use Rattle.trees.specs.PrivateNode.{NodeValue, map_of, below_name}

-- the rows of children, one child after another
abbrev pub rows_of : List (List ℕ × NodeValue) → List (List (List ℕ) × Entry)
rows_of [] = []
rows_of (kid ∷ kids) = below_name kid.0 (entries (map_of kid.1)) ++ rows_of kids

-- the children of a node without those whose names come before a text, and their names rise
pub record AreKidsFrom (node : NodeValue) (front : List ℕ) (kids : List (List ℕ × NodeValue)) : Type 0 where
  pub all : List (List ℕ × NodeValue)
  pub whole : entries (map_of node) ≡ ([], node.top) ∷ rows_of all
  pub left : kids ≡ from_name front all
  pub rise : is_sorted name_cmp kids ≡ true

-- the rows that are left of folders that were entered one below the other: these names lead down from the top one, `above` are the children
-- left of each folder but the last, the top one's first, and `kids` those of the last. The last folder's rows come first
abbrev pub rows_left : List (List ℕ) → List (List (List ℕ × NodeValue)) → List (List ℕ × NodeValue) → List (List (List ℕ) × Entry)
rows_left [] above kids = rows_of kids
rows_left (name ∷ names) [] kids = rows_of kids
rows_left (name ∷ names) (first ∷ above) kids = below_name name (rows_left names above kids) ++ rows_of first

-- the row of the root, whose path has no name, until it is given
abbrev pub root_row : List (List ℕ) → Option LentEntry → List (List (List ℕ) × Entry)
root_row names None = []
root_row names (Some entry) = (names, entry_of entry) ∷ []

-- the rows that are left below the root, where names and folders are held in buffers
abbrev pub left_below_root : {Z : Type 0} → Vec (Bor (List ℕ)) Z → Vec (List (List ℕ × NodeValue)) Z → List (List ℕ × NodeValue) → List (List (List ℕ) × Entry)
left_below_root names above kids = rows_left (lent_names names.items) above.items kids

-- nothing is below a node
abbrev pub IsBare : NodeValue → Type 0
IsBare node = entries (map_of node) ≡ ([], node.top) ∷ []

-- nothing is below any of these children
abbrev pub AreBare : List (List ℕ × NodeValue) → Type 0
AreBare kids = AllByRecursion (λ kid. IsBare kid.1) kids

-- There is a name for each folder above the last, and one more if nothing is below the entry that was given last. What is left has clean
-- paths, so there is room for all names and folders that may be entered.
pub record IsOnWay {Z : Type 0} (names : Vec (Bor (List ℕ)) Z) (above : Vec (List (List ℕ × NodeValue)) Z) (kids : List (List ℕ × NodeValue)) (are_bare : Bool) : Type 0 where
  pub least : length above.items ≤ length names.items
  pub most : length names.items ≤ length above.items + 1
  pub clean : AllByRecursion (λ row. IsClean row.0) (left_below_root names above kids)
  pub bare : IsTrue are_bare → AreBare kids
  pub room_names : most_components ≤ vec_capacity names
  pub room_above : most_components ≤ vec_capacity above

-- a walk at which each name is a folder's, and what it was
pub record IsAtFolder {Z : Type 0} (old names : Vec (Bor (List ℕ)) Z) (above : Vec (List (List ℕ × NodeValue)) Z) (kids : List (List ℕ × NodeValue)) (are_bare : Bool) : Type 0 where
  pub way : IsOnWay names above kids are_bare
  pub level : length names.items ≡ length above.items
  pub same : left_below_root names above kids ≡ left_below_root old above kids
  pub first : take (length names.items) (lent_names old.items) ≡ lent_names names.items

-- of what was left so many were passed, `most` at most, and the last of them stands at this name or path
pub record ArePassed {A B : Type 0} (most : ℕ) (old new : List (A × B)) (at : A) (count : ℕ) : Type 0 where
  pub some : 0 < count
  pub few : count ≤ most
  pub last : B
  pub left : drop (count - 1) old ≡ (at, last) ∷ new
