-- What is grown from rows that follow one another in the order of a walk: a node, and the children of a folder that are grown so far.
--
-- Rows are taken from the end of a list. What stands at each path is given by the rows alone, their paths beginning at the node.
use Rattle.std.specs.Prelude.{◌≡◌, ℕ, true, Option, Some, None, List, [], ◌∷◌, ◌++◌, reverse}
use Rattle.std.specs.FinMap.{get}
use Rattle.std.specs.FinMap.Entries.{is_sorted, below_all}
use Rattle.paths.specs.Order.{name_cmp}
use Rattle.paths.specs.Path.{IsClean}
use Rattle.trees.specs.declared.entry.Entry.{Entry}
use Rattle.trees.specs.declared.entry.Entry.TheVariants.{Directory}
use Rattle.trees.specs.TreeMap.{directory_meta}
use Rattle.trees.specs.Put.{planted}
use Rattle.trees.specs.Row.{Row}
use Rattle.trees.specs.PrivateNode.{NodeValue, map_of, joined, flat, are_full, rows_under, IsDepth}

-- nothing stands anywhere
abbrev pub nothing : List (List ℕ) → Option Entry
nothing = λ q. None

-- what stands at a path once these rows are placed, the last first, on what stood
abbrev pub grown : List Row → (List (List ℕ) → Option Entry) → List (List ℕ) → Option Entry
grown [] old q = old q
grown (row ∷ rows) old q = planted (grown rows old) row.0 directory_meta row.1 q

-- the paths of these rows are clean
abbrev pub AreClean : List Row → Type 0
AreClean [] = Unit {0}
AreClean (row ∷ rows) = IsClean row.0 × AreClean rows

-- children so far: those of rows, and then those of parts, both from the last to the first
abbrev pub gathered : List (List ℕ × NodeValue) → List (List (List ℕ × NodeValue)) → List (List ℕ × NodeValue)
gathered rows parts = reverse rows ++ flat (reverse parts)

-- no part is empty, the names rise, and none of their paths has more names than so
pub record AreGathered (rows : List (List ℕ × NodeValue)) (parts : List (List (List ℕ × NodeValue))) (depth : ℕ) : Type 0 where
  pub full : are_full parts ≡ true
  pub rise : is_sorted name_cmp (gathered rows parts) ≡ true
  pub deep : IsDepth depth (joined (gathered rows parts))

-- rows that were moved into parts, or not: the children are the same
pub record AreMoved (rows : List (List ℕ × NodeValue)) (parts : List (List (List ℕ × NodeValue))) (new_rows : List (List ℕ × NodeValue)) (new_parts : List (List (List ℕ × NodeValue))) : Type 0 where
  pub full : are_full new_parts ≡ true
  pub same : gathered new_rows new_parts ≡ gathered rows parts

-- the node of an entry that was the last of the old rows, at a front of its path, with what rows before it place below that front: they were
-- taken, and the new ones are left
pub record IsGrown (old new : List Row) (front rest : List (List ℕ)) (entry : Entry) (node : NodeValue) : Type 0 where
  pub taken : List Row
  pub whole : old ≡ new ++ rows_under front taken
  pub clean : AreClean (rows_under front taken)
  pub at : (q : List (List ℕ)) → get (map_of node) q ≡ grown (taken ++ (rest, entry) ∷ []) nothing q

-- the same of the children of a folder, of which no row was taken yet
pub record AreGrown (old new : List Row) (front rest : List (List ℕ)) (entry : Entry) (kids : List (List ℕ × NodeValue)) : Type 0 where
  pub taken : List Row
  pub whole : old ≡ new ++ rows_under front taken
  pub clean : AreClean (rows_under front taken)
  pub top : grown (taken ++ (rest, entry) ∷ []) nothing [] ≡ Some (Directory directory_meta)
  pub at : (c : List ℕ) (cs : List (List ℕ)) → get (joined kids) (c ∷ cs) ≡ grown (taken ++ (rest, entry) ∷ []) nothing (c ∷ cs)

-- a path is that of a folder, or goes on from it with a name before all of these children
pub record ComesNext (path front : List (List ℕ)) (kids : List (List ℕ × NodeValue)) : Type 0 where
  pub rest : List (List ℕ)
  pub below : path ≡ front ++ rest
  pub before : (name : List ℕ) (more : List (List ℕ)) → rest ≡ name ∷ more → below_all name_cmp name kids ≡ true

-- the last row was taken
pub record IsLast (old new : List Row) (row : Row) (front : List (List ℕ)) (kids : List (List ℕ × NodeValue)) : Type 0 where
  pub whole : old ≡ new ++ row ∷ []
  pub clean : IsClean row.0
  pub next : ComesNext row.0 front kids
