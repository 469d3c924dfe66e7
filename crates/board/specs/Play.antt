-- The machine of a board: what each step leaves of what a board holds.
--
-- It is plain data and functions. What may happen by the rules is said over histories alone in `Legal`; that the machine does just that is the contract of
-- the laws (`src/laws.rt`).
use Rattle.std.specs.Prelude.{◌≡◌, ℕ, zero, suc, ◌==◌, Bool, false, not, ◌&&◌, if◌then◌else◌, List, [], ◌∷◌, ◌++◌, length, map, Option, Some, None, is_some, slice_get, slice_set, replicate, filter, find}
use Rattle.std.specs.List.{count_by, list_any, list_all, slice_index_or}
use Rattle.std.specs.Option.{option_map, option_map_or}
use Rattle.cachemounts.specs.Holds.{can_take, new_holds, without_holder}
use Rattle.trees.specs.TreeMap.{TreeMap}
use Rattle.trees.specs.Cause.{TreeOrCause}
use Rattle.llb.specs.declared.vertex.Vertex.{Vertex}
use Rattle.plans.specs.Plan.{Problem, vertex_value, uses_at}
use Rattle.cachemounts.specs.declared.holds.Hold.{Hold}
use Rattle.board.specs.Readiness.{has_tree, stops}
use Rattle.board.specs.declared.event.Happened.{Happened}
use Rattle.board.specs.declared.event.Happened.TheVariants.{Claimed, Settled, Abandoned}
use Rattle.board.specs.declared.claim.ClaimOut.{ClaimOut}

-- what a board holds at a moment: for each vertex its value, once it is settled; the claims that are out, the oldest first; and their holds of caches (own)
pub record State : Type 0 where
  pub settled : List (Option TreeOrCause)
  pub claims : List ClaimOut
  pub holds : List Hold

-- what has happened on a board, and what it holds now (own)
pub record Run : Type 0 where
  pub history : List Happened
  pub state : State

-- what a caller asks of a board, with the trees that a settle gives back (own)
pub data Step : Type 0 where
  Claim : ℕ → Step
  Settle : ℕ → List TreeMap → Step
  Abandon : ℕ → Step

-- the worker whose step it is (own)
abbrev pub worker_of : Step → ℕ
worker_of (Claim worker) = worker
worker_of (Settle worker given) = worker
worker_of (Abandon worker) = worker

-- the step that something which happened was (own)
abbrev pub step_of : Happened → Step
step_of (Claimed worker vertex) = Claim worker
step_of (Settled worker vertex given) = Settle worker given
step_of (Abandoned worker vertex) = Abandon worker

-- the value with which a vertex is settled, if it is (own)
abbrev pub value_at : List (Option TreeOrCause) → ℕ → Option TreeOrCause
value_at settled vertex = slice_index_or settled vertex None

-- how many vertices are not settled (own)
abbrev pub unsettled_count : List (Option TreeOrCause) → ℕ
unsettled_count settled = count_by (λ value. not (is_some value)) settled

-- the claim that a worker has out (own)
abbrev pub claim_of : ℕ → List ClaimOut → Option ClaimOut
claim_of worker claims = find (λ claim. claim.worker == worker) claims

-- the vertex of a claim (own)
abbrev pub vertex_of : Option ClaimOut → Option ℕ
vertex_of (Some claim) = Some claim.vertex
vertex_of None = None

-- the claims of the other workers (own)
abbrev pub without : ℕ → List ClaimOut → List ClaimOut
without worker claims = filter (λ claim. not (claim.worker == worker)) claims

-- whether a claim of a vertex is out (own)
abbrev pub is_claimed : ℕ → List ClaimOut → Bool
is_claimed vertex claims = list_any (λ claim. claim.vertex == vertex) claims

-- whether each input is settled with a tree (own)
abbrev pub have_trees : List (Option TreeOrCause) → List ℕ → Bool
have_trees settled inputs = list_all (λ input. has_tree (value_at settled input)) inputs

-- whether a vertex is ready: each input is settled with a tree, it is neither settled nor claimed, its caches can be taken, and nothing stops it (own)
abbrev pub is_ready : Problem → State → ℕ → Bool
is_ready problem state vertex =
    option_map_or (λ (v : Vertex). have_trees state.settled v.inputs) (slice_get problem.vertices vertex) false
    && ((not (is_some (value_at state.settled vertex)) && not (is_claimed vertex state.claims))
    && (can_take state.holds (uses_at problem vertex) && not (stops problem (value_at state.settled) vertex)))

-- the number that was found, else n where that passes the test (own)
abbrev pub or_last : (ℕ → Bool) → ℕ → Option ℕ → Option ℕ
or_last test n (Some k) = Some k
or_last test n None = if test n then Some n else None

-- the least number below a bound that passes a test (own)
abbrev pub least : (ℕ → Bool) → ℕ → Option ℕ
least test zero = None
least test (suc n) = or_last test n (least test n)

-- the least vertex that is ready (own)
abbrev pub least_ready : Problem → State → Option ℕ
least_ready problem state = least (is_ready problem state) (length problem.vertices)

-- the vertex that a worker may claim: the least that is ready, and none where the worker has a claim out (own)
abbrev pub claimable : Problem → State → ℕ → Option ℕ
claimable problem state worker = if is_some (claim_of worker state.claims) then None else least_ready problem state

-- a claim that gives back as many trees as its vertex uses caches (own)
abbrev pub claim_giving : Problem → List TreeMap → Option ClaimOut → Option ClaimOut
claim_giving problem given None = None
claim_giving problem given (Some claim) = if length given == length (uses_at problem claim.vertex) then Some claim else None

-- what a step leaves, and the event that is added to the history (own)
pub record Move : Type 0 where
  pub state : State
  pub happened : Happened

-- a claim: it is out from now on, and its caches are held. The number of events before it tells it from others. (own)
abbrev pub claim_move : Problem → Run → ℕ → ℕ → Move
claim_move problem run worker vertex =
    record {
      state = record {
        settled = run.state.settled;
        claims = run.state.claims ++ record { worker = worker; vertex = vertex; at = length run.history } ∷ [];
        holds = run.state.holds ++ new_holds worker run.state.holds (uses_at problem vertex);
      };
      happened = Claimed worker vertex;
    }

-- a settle: the vertex is settled with its value, and the claim is out no more. The machine takes the value from the problem; that a worker brings just
-- that value is the condition of `Board::settle`. (own)
abbrev pub settle_move : Problem → State → List TreeMap → ClaimOut → Move
settle_move problem state given claim =
    record {
      state = record {
        settled = slice_set state.settled claim.vertex (vertex_value problem claim.vertex);
        claims = without claim.worker state.claims;
        holds = without_holder claim.worker state.holds;
      };
      happened = Settled claim.worker claim.vertex given;
    }

-- an abandon: the claim is out no more (own)
abbrev pub abandon_move : State → ClaimOut → Move
abandon_move state claim =
    record {
      state = record {
        settled = state.settled;
        claims = without claim.worker state.claims;
        holds = without_holder claim.worker state.holds;
      };
      happened = Abandoned claim.worker claim.vertex;
    }

-- what a step does, where it is possible (own)
abbrev pub next : Problem → Run → Step → Option Move
next problem run (Claim worker) = option_map (claim_move problem run worker) (claimable problem run.state worker)
next problem run (Settle worker given) = option_map (settle_move problem run.state given) (claim_giving problem given (claim_of worker run.state.claims))
next problem run (Abandon worker) = option_map (abandon_move run.state) (claim_of worker run.state.claims)

-- what has happened after a move, or as it was where there is none (own)
abbrev pub moved : Run → Option Move → Run
moved run (Some move) = record { history = run.history ++ move.happened ∷ []; state = move.state }
moved run None = run

-- one step more: one that isn't possible changes nothing (own)
abbrev pub go : Problem → Run → Step → Run
go problem run step = moved run (next problem run step)

-- step after step (own)
abbrev pub go_all : Problem → Run → List Step → Run
go_all problem run [] = run
go_all problem run (step ∷ steps) = go_all problem (go problem run step) steps

-- the beginning: nothing has happened, nothing is settled, no claim is out (own)
abbrev pub begun : Problem → Run
begun problem =
    record { history = []; state = record { settled = replicate (length problem.vertices) None; claims = []; holds = [] } }

-- what a list of steps leaves, each of them skipped where it isn't possible when its turn comes (own)
abbrev pub play : Problem → List Step → Run
play problem steps = go_all problem (begun problem) steps

-- what a board holds is the replay of its history (own)
abbrev pub IsReplay : Problem → Run → Type 0
IsReplay problem run = play problem (map step_of run.history) ≡ run
