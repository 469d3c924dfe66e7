-- A list of entries, as a bundle has one: a row is a path and what stands there (own).
use Rattle.std.specs.Prelude.{◌≡◌, ℕ, List, Some, slice_get}
use Rattle.trees.specs.declared.entry.Entry.{Entry}

-- a row
abbrev pub Row : Type 0
Row = List (List ℕ) × Entry

-- the list has this row
abbrev pub Has : List Row → Row → Type 0
Has rows row = (n : ℕ) × (slice_get rows n ≡ Some row)
