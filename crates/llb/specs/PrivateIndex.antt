-- How an index leads to the numbers of hashes (own).
use Rattle.std.specs.Prelude.{◌≡◌, ◌≢◌, ◌<◌, ◌≤◌, ◌-◌, ◌%◌, ℕ, length, get_or}
use Rattle.llb.specs.declared.index.Index.{Index}

-- how many places there are
abbrev pub places : Index → ℕ
places index = length index.ends.items

-- the place of a hash: what is left of it if it is divided by the number of places
abbrev pub place_of : Index → ℕ → ℕ
place_of index hash = hash % places index

-- the end is 1 more than the last number before `from` whose hash is at the place, or 0 where there is none
pub record IsEnd (index : Index) (place from end : ℕ) : Type 0 where
  pub low : end ≤ from
  pub here : 0 < end → place_of index (get_or index.hashes.items (end - 1) 0) ≡ place
  pub none : (k : ℕ) → k < from → end ≤ k → place_of index (get_or index.hashes.items k 0) ≢ place

-- each place has the end of all numbers, and each number that of those before it at its place
pub record IsIndex (index : Index) : Type 0 where
  pub beside : length index.befores.items ≡ length index.hashes.items
  pub closed : places index ≡ 0 → length index.hashes.items ≡ 0
  pub ends : (place : ℕ) → place < places index → IsEnd index place (length index.hashes.items) (get_or index.ends.items place 0)
  pub befores : (k : ℕ) → k < length index.hashes.items → IsEnd index (place_of index (get_or index.hashes.items k 0)) k (get_or index.befores.items k 0)
