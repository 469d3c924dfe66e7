-- What a board keeps so that a ready vertex needn't be looked for, and how it goes with what is settled and claimed (own).
use Rattle.std.specs.Prelude.{◌≡◌, ◌≢◌, ℕ, ◌+◌, ◌≤◌, ◌==◌, Bool, true, false, not, ◌&&◌, ◌||◌, if◌then◌else◌, List, [], ◌∷◌, Option, Some, None, is_some, Ok, Err, drop, length, min, nat_lt, slice_get, slice_index, slice_index_or}
use Rattle.std.specs.Option.{option_map_or}
use Rattle.trees.specs.Cause.{TreeOrCause}
use Rattle.llb.specs.Places.{least_line}
use Rattle.llb.specs.declared.vertex.Vertex.{Vertex}
use Rattle.board.specs.Readiness.{has_tree, has_cause}
use Rattle.board.specs.Play.{value_at, have_trees, is_claimed}
use Rattle.board.specs.PrivateNumbers.{has}
use Rattle.board.specs.declared.claim.ClaimOut.{ClaimOut}
use Rattle.board.specs.declared.frontier.Frontier.{Frontier}

-- how often a number is in a list (own)
abbrev pub times : ℕ → List ℕ → ℕ
times number [] = 0
times number (first ∷ rest) = (if first == number then 1 else 0) + times number rest

-- how many inputs aren't settled with a tree (own)
abbrev pub missing : List (Option TreeOrCause) → List ℕ → ℕ
missing settled [] = 0
missing settled (input ∷ inputs) = (if has_tree (value_at settled input) then 0 else 1) + missing settled inputs

-- the inputs of a vertex; none where there is no such vertex (own)
abbrev pub inputs_at : List Vertex → ℕ → List ℕ
inputs_at vertices vertex = option_map_or (λ (v : Vertex). v.inputs) (slice_get vertices vertex) []

-- the users of a vertex; none where there is no such vertex (own)
abbrev pub users_at : List (List ℕ) → ℕ → List ℕ
users_at users vertex = slice_index_or users vertex []

-- a vertex was begun: it is settled, or a claim of it is out (own)
abbrev pub is_begun : List (Option TreeOrCause) → List ClaimOut → ℕ → Bool
is_begun settled claims vertex = is_some (value_at settled vertex) || is_claimed vertex claims

-- a vertex is available: its inputs are settled with trees, and it wasn't begun (own)
abbrev pub is_available : List Vertex → List (Option TreeOrCause) → List ClaimOut → ℕ → Bool
is_available vertices settled claims vertex =
    option_map_or (λ (v : Vertex). have_trees settled v.inputs) (slice_get vertices vertex) false && not (is_begun settled claims vertex)

-- the users of each vertex: those of which it is an input, each as often as it is one (own)
pub record AreUsers (vertices : List Vertex) (users : List (List ℕ)) : Type 0 where
  pub long : length users ≡ length vertices
  pub used : (input user : ℕ) → times user (users_at users input) ≡ times input (inputs_at vertices user)

-- the least line behind a vertex; 0 if there is none (own)
abbrev pub line_in : List (List ℕ) → ℕ → ℕ
line_in places vertex = least_line (slice_index_or places vertex [])

-- a vertex is settled with a cause, and this is the least line behind it (own)
pub record HasFailedOn (places : List (List ℕ)) (settled : List (Option TreeOrCause)) (line : ℕ) : Type 0 where
  pub vertex : ℕ
  pub failed : has_cause (value_at settled vertex) ≡ true
  pub on : line_in places vertex ≡ line

-- the least line of all vertices that are settled with a cause; none if no vertex is (own)
abbrev pub IsFailedLine : List (List ℕ) → List (Option TreeOrCause) → Option ℕ → Type 0
IsFailedLine places settled None = (vertex : ℕ) → has_cause (value_at settled vertex) ≡ false
IsFailedLine places settled (Some line) =
    HasFailedOn places settled line × ((vertex : ℕ) → has_cause (value_at settled vertex) ≡ true → line ≤ line_in places vertex)

-- whether a line comes before the least failed line, if there is one (own)
abbrev pub comes_before : ℕ → Option ℕ → Bool
comes_before line None = true
comes_before line (Some failed) = nat_lt line failed

-- the least failed line, once this line has failed too (own)
abbrev pub with_failed : ℕ → Option ℕ → ℕ
with_failed line None = line
with_failed line (Some failed) = min line failed

-- what is kept goes with what is settled and claimed: each vertex in the set is available, and each available one whose line comes before
-- the least failed line is in it (own)
pub record IsFrontier (vertices : List Vertex) (places : List (List ℕ)) (settled : List (Option TreeOrCause)) (claims : List ClaimOut) (frontier : Frontier) : Type 0 where
  pub users : AreUsers vertices frontier.users.items
  pub waiting : (vertex : ℕ) → slice_index frontier.waiting.items vertex ≡ missing settled (inputs_at vertices vertex)
  pub waiting_long : length frontier.waiting.items ≡ length vertices
  pub available : (vertex : ℕ) → has frontier.available vertex ≡ true → is_available vertices settled claims vertex ≡ true
  pub kept : (vertex : ℕ) → is_available vertices settled claims vertex ≡ true → comes_before (line_in places vertex) frontier.failed ≡ true
      → has frontier.available vertex ≡ true
  pub available_long : length frontier.available ≡ length vertices
  pub begun : (vertex : ℕ) → is_begun settled claims vertex ≡ true → missing settled (inputs_at vertices vertex) ≡ 0
  pub failed : IsFailedLine places settled frontier.failed

-- some vertices were taken out of the set, and none of their lines comes before the least failed line (own)
pub record IsThinned (places : List (List ℕ)) (old new : Frontier) : Type 0 where
  pub same : new ≡ record old { available = new.available }
  pub long : length new.available ≡ length old.available
  pub fewer : (vertex : ℕ) → has new.available vertex ≡ true → has old.available vertex ≡ true
  pub kept : (vertex : ℕ) → has old.available vertex ≡ true → comes_before (line_in places vertex) old.failed ≡ true → has new.available vertex ≡ true

-- a user was noted for each of its inputs, as often as it is one (own)
pub record IsNoted (user : ℕ) (inputs : List ℕ) (old new : List (List ℕ)) : Type 0 where
  pub own : (input : ℕ) → times user (users_at new input) ≡ times user (users_at old input) + times input inputs
  pub others : (input other : ℕ) → other ≢ user → times other (users_at new input) ≡ times other (users_at old input)

-- each user waits for so many inputs less as it is in the list, and those that wait for none since are available (own)
pub record IsLowered (users waiting_before waiting_after : List ℕ) (available_before available_after : List Bool) : Type 0 where
  pub waiting : (user : ℕ) → slice_index waiting_after user + times user users ≡ slice_index waiting_before user
  pub waiting_long : length waiting_after ≡ length waiting_before
  pub available : (user : ℕ) → has available_after user ≡ (has available_before user || (not (slice_index waiting_before user == 0) && (slice_index waiting_after user == 0)))
  pub available_long : length available_after ≡ length available_before

-- what is kept after a vertex of this line was settled so (own)
abbrev pub IsSettledIn : ℕ → ℕ → TreeOrCause → Frontier → Frontier → Type 0
IsSettledIn vertex line (Ok tree) old new =
    IsLowered (users_at old.users.items vertex) old.waiting.items new.waiting.items old.available new.available
    × (new.users.items ≡ old.users.items) × (new.failed ≡ old.failed)
IsSettledIn vertex line (Err cause) old new = new ≡ record old { failed = Some (with_failed line old.failed) }

-- users may be noted as having one input more: none waits for fewer inputs than it is in the list (own)
abbrev pub CanLower : List ℕ → List ℕ → Type 0
CanLower users waiting = (user : ℕ) → times user users ≤ slice_index waiting user

-- the same, where those before this place in the list were lowered (own)
pub record IsLowering (users : List ℕ) (place : ℕ) (waiting_before waiting_now : List ℕ) (available_before available_now : List Bool) : Type 0 where
  pub rest : CanLower (drop place users) waiting_now
  pub fewer : (user : ℕ) → slice_index waiting_now user ≤ slice_index waiting_before user
  pub waiting : (user : ℕ) → slice_index waiting_now user + times user users ≡ slice_index waiting_before user + times user (drop place users)
  pub available : (user : ℕ) → has available_now user ≡ (has available_before user || (not (slice_index waiting_before user == 0) && (slice_index waiting_now user == 0)))
  pub available_long : length available_now ≡ length available_before
