-- A set of numbers below a bound, and the list of nodes that it is kept in (own).
use Rattle.std.specs.Prelude.{◌≡◌, ℕ, ◌+◌, ◌*◌, ◌/◌, ◌<◌, ◌≤◌, Bool, true, false, ◌⊎◌, List, map, drop, length, nat_lt, slice_index, slice_index_or}

-- whether a number is in a set; none from the bound on is (own)
abbrev pub has : List Bool → ℕ → Bool
has members number = slice_index_or members number false

-- the first number of a set from this one on (own)
pub record IsFirst (members : List Bool) (from first : ℕ) : Type 0 where
  pub from_there : from ≤ first
  pub there : has members first ≡ true
  pub least : (number : ℕ) → from ≤ number → number < first → has members number ≡ false

-- no number of a set from this one on (own)
abbrev pub HasNone : List Bool → ℕ → Type 0
HasNone members from = (number : ℕ) → from ≤ number → has members number ≡ false

-- the lesser of two numbers (own)
pub record IsLesser (left right lesser : ℕ) : Type 0 where
  pub below_left : lesser ≤ left
  pub below_right : lesser ≤ right
  pub one : (lesser ≡ left) ⊎ (lesser ≡ right)

-- the set whose numbers the leaves have: the upper half of the nodes (own)
abbrev pub members_in : List ℕ → List Bool
members_in nodes = map (λ leaf. nat_lt leaf (length nodes / 2)) (drop (length nodes / 2) nodes)

-- each node of the lower half has the lesser of the two below it (own)
abbrev pub IsHeap : List ℕ → Type 0
IsHeap nodes =
    (at : ℕ) → 0 < at → at < length nodes / 2
    → IsLesser (slice_index nodes (2 * at)) (slice_index nodes (2 * at + 1)) (slice_index nodes at)

-- there is a leaf for each number, which has the number or the bound (own)
pub record IsNumberTree (nodes : List ℕ) : Type 0 where
  pub even : length nodes ≡ 2 * (length nodes / 2)
  pub heap : IsHeap nodes
  pub leaves : (number : ℕ) → number < length nodes / 2
      → (slice_index nodes (length nodes / 2 + number) ≡ number) ⊎ (slice_index nodes (length nodes / 2 + number) ≡ length nodes / 2)

-- what a leaf from this one on has, or half the length (own)
abbrev pub IsLeafOrBound : List ℕ → ℕ → ℕ → Type 0
IsLeafOrBound nodes leaf value =
    (value ≡ length nodes / 2) ⊎ ((at : ℕ) × (leaf ≤ at) × (at < length nodes) × (slice_index nodes at ≡ value))

-- the least that the leaves from this one on have, or half the length where they have nothing less (own)
pub record IsFirstLeaf (nodes : List ℕ) (leaf first : ℕ) : Type 0 where
  pub most : first ≤ length nodes / 2
  pub least : (at : ℕ) → leaf ≤ at → at < length nodes → first ≤ slice_index nodes at
  pub there : IsLeafOrBound nodes leaf first

-- on the way up: the numbers of the leaves from this one on are below the nodes from low on and before high, or first is none of them greater (own)
pub record IsSeen (nodes : List ℕ) (leaf low high first : ℕ) : Type 0 where
  pub above : low < high → 0 < low
  pub within : high ≤ length nodes
  pub most : first ≤ length nodes / 2
  pub least : (at : ℕ) → leaf ≤ at → at < length nodes
      → (first ≤ slice_index nodes at) ⊎ ((i : ℕ) × (low ≤ i) × (i < high) × (slice_index nodes i ≤ slice_index nodes at))
  pub there : IsLeafOrBound nodes leaf first
  pub nodes_there : (i : ℕ) → low ≤ i → i < high → IsLeafOrBound nodes leaf (slice_index nodes i)
