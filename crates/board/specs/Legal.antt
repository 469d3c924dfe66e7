-- What may happen on a board, over histories alone.
use Rattle.std.specs.Prelude.{◌≡◌, ◌≢◌, ℕ, ◌<◌, ◌≤◌, ◌==◌, Bool, true, false, ◌⊎◌, if◌then◌else◌, List, [], ◌∷◌, ◌++◌, map, length, Option, Some, None, Ok, Err, slice_get}
use Rattle.std.specs.List.{list_any, fold, All, count_by}
use Rattle.cachemounts.specs.Holds.{can_take}
use Rattle.cachemounts.specs.Changes.{Change, Takes, Gives, Leaves, holders}
use Rattle.trees.specs.TreeMap.{TreeMap}
use Rattle.llb.specs.declared.vertex.Vertex.{Vertex}
use Rattle.plans.specs.Plan.{Problem, vertex_value, uses_at}
use Rattle.trees.specs.Cause.{TreeOrCause}
use Rattle.cachemounts.specs.declared.holds.Hold.{Hold}
use Rattle.trees.specs.declared.cause.Cause.{Cause}
use Rattle.board.specs.Readiness.{stops}
use Rattle.board.specs.Play.{Step, step_of}
use Rattle.board.specs.declared.event.Event.{Event}
use Rattle.board.specs.declared.event.Event.TheVariants.{Claim, Settle, Abandon}
use Rattle.board.specs.declared.event.Happened.{Happened}
use Rattle.board.specs.declared.event.Happened.TheVariants.{Claimed, Settled, Abandoned}

-- the event that was asked for, of something that happened: the trees that were given back left out (own)
abbrev pub event_of : Happened → Event
event_of (Claimed worker vertex) = Claim worker
event_of (Settled worker vertex given) = Settle worker
event_of (Abandoned worker vertex) = Abandon worker

-- what happened, the trees that were given back left out (own)
abbrev pub without_trees : Happened → Happened
without_trees (Claimed worker vertex) = Claimed worker vertex
without_trees (Settled worker vertex given) = Settled worker vertex []
without_trees (Abandoned worker vertex) = Abandoned worker vertex

-- the vertex that a worker has out after one event more (own)
abbrev pub vertex_out_then : ℕ → Option ℕ → Happened → Option ℕ
vertex_out_then worker before (Claimed by vertex) = if by == worker then Some vertex else before
vertex_out_then worker before (Settled by vertex given) = if by == worker then None else before
vertex_out_then worker before (Abandoned by vertex) = if by == worker then None else before

-- the vertex that a worker has out after a history: that of its last event, where that is a claim (own)
abbrev pub vertex_out : List Happened → ℕ → Option ℕ
vertex_out history worker = fold (vertex_out_then worker) None history

-- whether this is a settle of a vertex (own)
abbrev pub settles : ℕ → Happened → Bool
settles vertex (Claimed worker which) = false
settles vertex (Settled worker which given) = which == vertex
settles vertex (Abandoned worker which) = false

-- a history settles a vertex: a settle of it is in the history (own)
abbrev pub IsSettled : List Happened → ℕ → Type 0
IsSettled history vertex = list_any (settles vertex) history ≡ true

-- the value of a vertex is a tree (own)
abbrev pub HasTree : Problem → ℕ → Type 0
HasTree problem vertex = (tree : TreeMap) × (vertex_value problem vertex ≡ Some (Ok tree))

-- the value of a vertex is a cause (own)
abbrev pub HasCause : Problem → ℕ → Type 0
HasCause problem vertex = (cause : Cause) × (vertex_value problem vertex ≡ Some (Err cause))

-- with what a history settles a vertex: with its value (own)
abbrev pub settled_by : Problem → List Happened → ℕ → Option TreeOrCause
settled_by problem history vertex = if list_any (settles vertex) history then vertex_value problem vertex else None

-- what something that happened does to caches: a claim takes those that its vertex uses, a settle gives trees back, an abandon leaves (own)
abbrev pub change_of : Problem → Happened → Change
change_of problem (Claimed worker vertex) = Takes worker (uses_at problem vertex)
change_of problem (Settled worker vertex given) = Gives worker given
change_of problem (Abandoned worker vertex) = Leaves worker

-- the holds of caches after a history (own)
abbrev pub held_caches : Problem → List Happened → List Hold
held_caches problem history = holders (map (change_of problem) history)

-- a vertex is available after a history: it is neither claimed nor settled, and every input of it is settled with a tree (own)
pub record IsAvailable (problem : Problem) (history : List Happened) (vertex : ℕ) : Type 0 where
  pub unclaimed : (worker : ℕ) → vertex_out history worker ≢ Some vertex
  pub unsettled : ¬ IsSettled history vertex
  pub inputs : (v : Vertex) × (slice_get problem.vertices vertex ≡ Some v) × All (λ input. IsSettled history input × HasTree problem input) v.inputs

-- a vertex is ready after a history: it is neither claimed nor settled, every input of it is settled with a tree, its caches can be taken, and nothing
-- stops it (own)
pub record IsReady (problem : Problem) (history : List Happened) (vertex : ℕ) : Type 0 where
  pub unclaimed : (worker : ℕ) → vertex_out history worker ≢ Some vertex
  pub unsettled : ¬ IsSettled history vertex
  pub inputs : (v : Vertex) × (slice_get problem.vertices vertex ≡ Some v) × All (λ input. IsSettled history input × HasTree problem input) v.inputs
  pub caches : can_take (held_caches problem history) (uses_at problem vertex) ≡ true
  pub goes_on : stops problem (settled_by problem history) vertex ≡ false

-- a worker may claim a vertex: it has none out, and of the vertices that are ready this is the least (own)
pub record IsNext (problem : Problem) (history : List Happened) (worker vertex : ℕ) : Type 0 where
  pub idle : vertex_out history worker ≡ None
  pub ready : IsReady problem history vertex
  pub least : (lower : ℕ) → lower < vertex → ¬ IsReady problem history lower

-- what a worker's claim gives after a history: the vertex that it may claim, or none where the worker has one out or no vertex is ready (own)
abbrev pub IsNextClaim : Problem → List Happened → ℕ → Option ℕ → Type 0
IsNextClaim problem history worker (Some vertex) = IsNext problem history worker vertex
IsNextClaim problem history worker None = (vertex_out history worker ≢ None) ⊎ ((vertex : ℕ) → ¬ IsReady problem history vertex)

-- what may happen after a history: the claim of the least ready vertex by a worker that has none out, and a settle of the vertex that the worker has out,
-- with as many trees as it uses caches, or an abandon of it (own)
abbrev pub Possible : Problem → List Happened → Happened → Type 0
Possible problem history (Claimed worker vertex) = IsNext problem history worker vertex
Possible problem history (Settled worker vertex given) = (vertex_out history worker ≡ Some vertex) × (length given ≡ length (uses_at problem vertex))
Possible problem history (Abandoned worker vertex) = vertex_out history worker ≡ Some vertex

-- each event of a list is possible after those before it, and after the history `before` that the list goes on (own)
abbrev pub GoesOn : Problem → List Happened → List Happened → Type 0
GoesOn problem before [] = Unit {0}
GoesOn problem before (event ∷ events) = Possible problem before event × GoesOn problem (before ++ event ∷ []) events

-- a history is legal: each of its events is possible after those before it (own)
abbrev pub IsLegal : Problem → List Happened → Type 0
IsLegal problem history = GoesOn problem [] history

-- what a list of steps adds to a history: one that is possible when its turn comes happens, and one that isn't is left out (own)
abbrev pub StepsOn : Problem → List Happened → List Step → List Happened → Type 0
StepsOn problem before [] after = after ≡ before
StepsOn problem before (step ∷ steps) after =
    ((happened : Happened) × (step_of happened ≡ step) × Possible problem before happened × StepsOn problem (before ++ happened ∷ []) steps after)
    ⊎ (((happened : Happened) → step_of happened ≡ step → ¬ Possible problem before happened) × StepsOn problem before steps after)

-- what a list of events adds to a history: one that is possible when its turn comes happens, a settle with some list of trees, and one that isn't is
-- left out (own)
abbrev pub PlaysOn : Problem → List Happened → List Event → List Happened → Type 0
PlaysOn problem before [] after = after ≡ before
PlaysOn problem before (event ∷ events) after =
    ((happened : Happened) × (event_of happened ≡ event) × Possible problem before happened × PlaysOn problem (before ++ happened ∷ []) events after)
    ⊎ (((happened : Happened) → event_of happened ≡ event → ¬ Possible problem before happened) × PlaysOn problem before events after)

-- a history is what a list of events adds to the empty one (own)
abbrev pub Plays : Problem → List Event → List Happened → Type 0
Plays problem events history = PlaysOn problem [] events history

-- no vertex is settled twice (own)
abbrev pub IsSettledOnce : List Happened → Type 0
IsSettledOnce history = (vertex : ℕ) → count_by (settles vertex) history ≤ 1
