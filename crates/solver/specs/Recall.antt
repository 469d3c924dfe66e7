-- What is known of the trees of a problem's vertices in a memo: under which number it keeps a vertex's tree.
use Rattle.std.specs.Prelude.{◌≡◌, ◌<◌, ◌⊎◌, ℕ, List, length, Option, None, Some, Ok, IfSome, slice_index_or}
use Rattle.trees.specs.TreeMap.{TreeMap, empty_tree}
use Rattle.runs.specs.declared.run.RunRequest.{RunRequest}
use Rattle.plans.specs.Plan.{Problem}
use Rattle.plans.specs.Value.{Out, Value}
use Rattle.board.specs.Leaving.{Leaving}
use Rattle.board.specs.Problem.{values_in}
use Rattle.memo.specs.declared.number.Age.{Age}
use Rattle.memo.specs.declared.number.Age.TheVariants.{Recent, Earlier}
use Rattle.solver.specs.declared.finding.Finding.{Finding}

-- the tree of a vertex, by the values of all of them, is kept under this number (own)
pub record IsKept (values : List Value) (kept : List TreeMap) (vertex number : ℕ) : Type 0 where
  pub below : number < length kept
  pub value : slice_index_or values vertex None ≡ Some (Ok (slice_index_or kept number empty_tree))

-- the number that a finding has in a generation, if it has one (own)
abbrev pub number_in : Finding → Age → Option ℕ
number_in finding Recent = finding.recent
number_in finding Earlier = finding.earlier

-- the numbers in a finding are those of the vertex's tree, by the values of all vertices and the trees of both generations (own)
pub record IsFinding (values : List Value) (recent earlier : List TreeMap) (vertex : ℕ) (finding : Finding) : Type 0 where
  pub in_recent : IfSome finding.recent (IsKept values recent vertex)
  pub in_earlier : IfSome finding.earlier (IsKept values earlier vertex)

-- answers and values are those of a problem (own)
pub record AreOf (problem : Problem) (out : Out) (values : List Value) : Type 0 where
  pub same_out : out ≡ problem.out
  pub same_values : values ≡ values_in problem

-- in the caches of a request that is known the trees may stay as they were (own)
abbrev pub stays : (RunRequest → Type 0) → Leaving
stays knows request before after = knows request × (after ≡ before)

-- what may be left in the caches of a request where a memo is asked first: what its run may leave, or, if the memo knows it, the trees as they were (own)
abbrev pub leaves_or_stays : (RunRequest → Type 0) → Leaving → Leaving
leaves_or_stays knows leaves request before after = leaves request before after ⊎ stays knows request before after

-- the trees may stay as they were in the caches of each request that is known (own)
abbrev pub MayStay : (RunRequest → Type 0) → Leaving → Type 0
MayStay knows leaves = (request : RunRequest) (trees : List TreeMap) → knows request → leaves request trees trees
