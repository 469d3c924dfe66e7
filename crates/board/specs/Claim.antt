-- What a claim says, and when it is a claim of a problem, is out, and has a value as its result.
use Rattle.std.specs.Prelude.{◌≡◌, ◌↔◌, ℕ, true, List, Some, is_some, slice_get, length, refl}
use Rattle.std.specs.Coded.{Coded, code_by, coded×, coded_ℕ, coded_list}
use Rattle.trees.specs.contracts.tree.Tree as tree
use Rattle.plans.specs.Value.{trees_at, result_of}
use Rattle.trees.specs.TreeMap.{TreeMap}
use Rattle.trees.specs.Cause.{TreeOrCause}
use Rattle.llb.specs.declared.vertex.Vertex.{Vertex}
use Rattle.plans.specs.Plan.{Problem, caches_of, uses_at}
use Rattle.board.specs.Problem.{values_in}
use Rattle.board.specs.Play.{State, claim_of, value_at}
use Rattle.board.specs.Legal.{vertex_out, IsSettled, held_caches}
use Rattle.board.specs.Play.{vertex_of}
use Rattle.board.specs.declared.claim.ClaimOut.{ClaimOut}
use Rattle.board.specs.declared.event.Happened.{Happened}

-- what a claim says: the worker and the vertex, the number of events before it, the trees of the vertex's inputs, and the trees that were in its caches (own)
pub record ClaimValue : Type 0 where
  pub worker : ℕ
  pub vertex : ℕ
  pub at : ℕ
  pub inputs : List TreeMap
  pub caches : List TreeMap

-- a claim in plain data, for generic code (own)
abbrev pub claim_code : Coded ClaimValue
claim_code =
    code_by (ℕ × (ℕ × (ℕ × (List TreeMap × List TreeMap))))
    (coded× coded_ℕ (coded× coded_ℕ (coded× coded_ℕ (coded× (coded_list tree.the_row.coded) (coded_list tree.the_row.coded)))))
    (λ c. (c.worker, (c.vertex, (c.at, (c.inputs, c.caches)))))
    (λ t. record { worker = t.0; vertex = t.1.0; at = t.1.1.0; inputs = t.1.1.1.0; caches = t.1.1.1.1 })
    (λ _. refl)

-- a claim, as the board keeps it while it is out (own)
abbrev pub claim_out : ClaimValue → ClaimOut
claim_out claim = record { worker = claim.worker; vertex = claim.vertex; at = claim.at }

-- a claim is of a problem: its vertex is one of the problem's, its inputs are the trees that are the values of the vertex's inputs, and it has a tree for
-- each cache that the vertex uses. It stays so, whatever happens on the board. (own)
pub record IsClaim (problem : Problem) (claim : ClaimValue) : Type 0 where
  pub vertex : Vertex
  pub there : slice_get problem.vertices claim.vertex ≡ Some vertex
  pub inputs : trees_at (values_in problem) vertex.inputs ≡ Some claim.inputs
  pub caches : length claim.caches ≡ length (caches_of vertex.op)

-- a claim is out: it is the one that its worker has out (own)
abbrev pub IsOut : State → ClaimValue → Type 0
IsOut state claim = claim_of claim.worker state.claims ≡ Some (claim_out claim)

-- trees may be given back for a claim: as many as its vertex uses caches (own)
abbrev pub IsGivenBack : Problem → ClaimValue → List TreeMap → Type 0
IsGivenBack problem claim given = length given ≡ length (uses_at problem claim.vertex)

-- a value is the result of a claim: what the operation of its vertex gives on its inputs (own)
abbrev pub IsResult : Problem → ClaimValue → TreeOrCause → Type 0
IsResult problem claim value =
    (v : Vertex) → slice_get problem.vertices claim.vertex ≡ Some v → result_of problem.out problem.sources v.op claim.inputs ≡ Some value

-- a board holds what a history says: each worker has the vertex out that the history says, a vertex is settled where the history settles it, and the holds
-- of caches are the history's (own)
pub record IsStateOf (problem : Problem) (history : List Happened) (state : State) : Type 0 where
  pub claims : (worker : ℕ) → vertex_of (claim_of worker state.claims) ≡ vertex_out history worker
  pub settled : (vertex : ℕ) → (is_some (value_at state.settled vertex) ≡ true) ↔ IsSettled history vertex
  pub holds : state.holds ≡ held_caches problem history
