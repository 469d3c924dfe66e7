-- Rows in one list, the last name first, and where a name stands among them.
use Rattle.std.specs.Prelude.{◌≡◌, ℕ, ◌≤◌, true, List, ◌∷◌, ◌++◌, length, take, drop}
use Rattle.std.specs.FinMap.Entries.{below_all}
use Rattle.std.specs.declared.cmp.Ordering.{Ordering}
use Rattle.plans.specs.Sources.{name_cmp}

-- the order of names from the last to the first
abbrev pub falling : List ℕ → List ℕ → Ordering
falling name other = name_cmp other name

-- the row of a name stands at a place
pub record StandsAt {V : Type 0} (name : List ℕ) (rows : List (List ℕ × V)) (at : ℕ) : Type 0 where
  pub before : List (List ℕ × V)
  pub value : V
  pub behind : List (List ℕ × V)
  pub whole : rows ≡ before ++ (name, value) ∷ behind
  pub place : length before ≡ at

-- a place among names that fall at which another name keeps them falling
pub record GoesAt {V : Type 0} (name : List ℕ) (rows : List (List ℕ × V)) (at : ℕ) : Type 0 where
  pub within : at ≤ length rows
  pub before : below_all name_cmp name (take at rows) ≡ true
  pub behind : below_all falling name (drop at rows) ≡ true
