-- What is drawn of a plan: the definition of its graph, with its links put into one and without what its target doesn't reach (own, after
-- BuildKit's LLB definition).
use Rattle.std.specs.Prelude.{◌≡◌, ◌≢◌, ◌<◌, ℕ, Some, Result, Ok, Err, List, [], length, slice_get}
use Rattle.plain.specs.declared.fault.Fault.{Fault}
use Rattle.plain.specs.declared.fault.Fault.TheVariants.{Because, Memory}
use Rattle.llb.specs.declared.vertex.Vertex.{Vertex}
use Rattle.llb.specs.Graph.{GraphValue, IsGraph}
use Rattle.llb.specs.Reach.{Reaches}
use Rattle.plans.specs.Plan.{PlanValue}
use Rattle.plans.specs.Value.{Out, value_of}
use Rattle.rewrite.specs.Flat.{IsFlattened, MergesAreFlat}
use Rattle.rewrite.specs.Pruned.{IsPruned}
use Rattle.addresses.specs.Address.{addresses_of, clash_after}
use Rattle.definition.specs.Definition.{AreAlike, IsWritten}
use Rattle.definition.specs.Reading.{IsReadAs}
use Rattle.drawing.specs.declared.fault.Clash.{Clash}

-- a plan is another one with its links put into one, then without what its target doesn't reach
pub record IsSimplified {C : Type 0} (plan simple : PlanValue C) : Type 0 where
  pub flat : PlanValue C
  pub flattened : IsFlattened plan flat
  pub pruned : IsPruned flat simple

-- A text defines a graph and its result: it is what they are written as, it is read as them, lines and all, each vertex is the result or is
-- reached from it by inputs, and no merge is the first input of a merge.
pub record Defines (text : List ℕ) (graph : GraphValue) (result : ℕ) : Type 0 where
  pub written : IsWritten graph result (Ok text)
  pub read : IsReadAs text (Ok (graph, result))
  pub reached : (vertex : ℕ) → vertex < length graph.vertices → Reaches graph.vertices result vertex
  pub flat : MergesAreFlat graph.vertices

-- A text draws a plan: it defines the graph of the simplified plan, with the lines behind its vertices, and under every executor its result has
-- the value of the plan's target, over the plan's sources.
pub record Draws {C : Type 0} (plan : PlanValue C) (text : List ℕ) : Type 0 where
  pub simple : PlanValue C
  pub is : IsGraph simple.graph
  pub simplified : IsSimplified plan simple
  pub defines : Defines text simple.graph simple.target
  pub value : (out : Out)
      → value_of out plan.sources simple.graph.vertices simple.target ≡ value_of out plan.sources plan.graph.vertices plan.target

-- Two operations of vertices are different and have one address.
pub record HaveOneAddress (vertices : List Vertex) (first second : ℕ) : Type 0 where
  pub alike : AreAlike (addresses_of vertices) first second
  pub different : (one other : Vertex) → slice_get vertices first ≡ Some one → slice_get vertices second ≡ Some other → one ≢ other

-- Two different operations of what would be drawn have one address, and the later one is the first that has the address of one before it.
pub record Clashes {C : Type 0} (plan : PlanValue C) : Type 0 where
  pub simple : PlanValue C
  pub simplified : IsSimplified plan simple
  pub before : ℕ
  pub place : ℕ
  pub clash : clash_after [] simple.graph.vertices ≡ Some place
  pub same : HaveOneAddress simple.graph.vertices before place

-- what drawing a plan answers; want of memory says nothing
abbrev pub IsDrawn : {C : Type 0} → PlanValue C → Result (List ℕ) (Fault Clash) → Type 0
IsDrawn plan (Ok text) = Draws plan text
IsDrawn plan (Err (Because clash)) = Clashes plan
IsDrawn plan (Err Memory) = Unit {0}
