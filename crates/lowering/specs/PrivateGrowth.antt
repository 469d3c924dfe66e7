-- How a graph grows where the vertices of instructions are added.
use Rattle.std.specs.Prelude.{◌≡◌, ◌<◌, ◌*◌, ◌⊎◌, ◌↔◌, ℕ, List, [], ◌∷◌, ◌++◌, length, Option, Some, slice_get, Contains, IsTrue}
use Rattle.std.specs.List.{All, AllZip}
use Rattle.llb.specs.declared.op.Op.{Op}
use Rattle.llb.specs.declared.op.Op.TheVariants.{Source as SourceOp}
use Rattle.llb.specs.declared.vertex.Vertex.{Vertex}
use Rattle.llb.specs.Graph.{GraphValue}
use Rattle.llb.specs.WellFormed.{is_well_formed_on}
use Rattle.plans.specs.Sources.{HasSource}
use Rattle.lowering.specs.Meaning.{Rows}
use Rattle.lowering.specs.Means.{lines_at}
use Rattle.lowering.specs.Vertices.{Tips, Places, HasPlace, AreNumbered, IsVertex, IsOrigin, origin_places, origins_places, IsOperation, IsLowered, AreLowered}
use Rattle.lowering.specs.Vertices.{IsStageLowered, IsRowLowered, AreRowsLowered}
use Rattle.rows.specs.WellFormed.{HasTree, NamesOnly, StageNames, RowNames, row_steps, count_of_steps}
use Rattle.lowering.specs.PrivateRoom.{op_others, Uses}
use Rattle.rows.specs.declared.row.Origin.{Origin}
use Rattle.rows.specs.declared.row.Origin.TheVariants.{Source as SourceOf, Stage as StageOf}
use Rattle.rows.specs.declared.row.Step.{Step}
use Rattle.rows.specs.declared.row.Stage.{Stage}

-- the graph without a vertex
abbrev pub no_graph : GraphValue
no_graph = record { vertices = []; places = [] }

-- some vertices stand where they stood
abbrev pub IsFront : List Vertex → List Vertex → Type 0
IsFront old new = (more : List Vertex) × (new ≡ old ++ more)

-- A graph became larger: its vertices stand where they stood, these places came to it, and each vertex that came has one of them and
-- stands where its first one does.
pub record Grows (old new : GraphValue) (places : Places) : Type 0 where
  pub front : IsFront old.vertices new.vertices
  pub lines : (id line : ℕ) → Contains (lines_at new id) line ↔ (Contains (lines_at old id) line ⊎ HasPlace places line id)
  pub more : (id : ℕ) → id < length new.vertices → (id < length old.vertices) ⊎ ((line : ℕ) × HasPlace places line id)
  pub order : AreNumbered (length old.vertices) places (length new.vertices)

-- all last vertices are in a graph
abbrev pub AreInside : Tips → ℕ → Type 0
AreInside tips n = (number id : ℕ) → slice_get tips number ≡ Some (Some id) → id < n

-- a well-formed source may be named, and a stage that has a last vertex
abbrev pub HasTip : Tips → Origin → Type 0
HasTip tips (SourceOf source) = IsTrue (is_well_formed_on (SourceOp source) 0)
HasTip tips (StageOf number) = (tip : ℕ) × (slice_get tips number ≡ Some (Some tip))

-- a vertex was added
pub record IsPut (old new : GraphValue) (op : Op) (inputs : List ℕ) (line id : ℕ) : Type 0 where
  pub is : IsVertex new.vertices op inputs id
  pub grows : Grows old new ((line, id) ∷ [])
  pub uses : Uses old new (λ s. HasSource s op) (op_others op)

-- the vertex of what is named was added, or is there
pub record IsOriginPut (old new : GraphValue) (tips : Tips) (line : ℕ) (origin : Origin) (id : ℕ) : Type 0 where
  pub is : IsOrigin new.vertices tips origin id
  pub grows : Grows old new (origin_places line origin id)
  pub inside : id < length new.vertices
  pub uses : Uses old new (λ s. HasTree s origin) 0

-- the inputs of an operation were added: a vertex that is there, and those of all that is named
pub record AreInputsPut (old new : GraphValue) (tips : Tips) (line base : ℕ) (origins : List Origin) (inputs : List ℕ) : Type 0 where
  pub named : List ℕ
  pub all : inputs ≡ base ∷ named
  pub are : AllZip (IsOrigin new.vertices tips) origins named
  pub grows : Grows old new (origins_places line origins named)
  pub inside : All (λ id. id < length new.vertices) inputs
  pub uses : Uses old new (λ s. All (HasTree s) origins) 0

-- an operation was added on a vertex and on what is named
pub record IsOperationPut (old new : GraphValue) (tips : Tips) (line base : ℕ) (op : Op) (origins : List Origin) (id : ℕ) : Type 0 where
  pub places : Places
  pub is : IsOperation new.vertices tips line base op origins id places
  pub grows : Grows old new places
  pub inside : id < length new.vertices
  pub uses : Uses old new (λ s. All (HasTree s) origins) 1

-- an instruction was lowered
pub record IsStepPut (old new : GraphValue) (tips : Tips) (base : ℕ) (step : Step) (id : ℕ) : Type 0 where
  pub places : Places
  pub is : IsLowered new.vertices tips step.line base step.action id places
  pub grows : Grows old new places
  pub inside : id < length new.vertices
  pub uses : Uses old new (λ s. NamesOnly (HasTree s) step.action) 2

-- some instructions of a stage were lowered
pub record AreStepsPut (old new : GraphValue) (tips : Tips) (base : ℕ) (steps : List Step) (last : ℕ) : Type 0 where
  pub places : Places
  pub are : AreLowered new.vertices tips base steps last places
  pub grows : Grows old new places
  pub inside : last < length new.vertices
  pub uses : Uses old new (λ s. All (λ step. NamesOnly (HasTree s) step.action) steps) (2 * length steps)

-- a stage was lowered
pub record IsStagePut (old new : GraphValue) (tips : Tips) (stage : Stage) (last : ℕ) : Type 0 where
  pub places : Places
  pub is : IsStageLowered new.vertices tips stage last places
  pub grows : Grows old new places
  pub inside : last < length new.vertices
  pub uses : Uses old new (λ s. StageNames (HasTree s) stage) (2 * length stage.steps)

-- a row was lowered
pub record IsRowPut (old new : GraphValue) (tips : Tips) (row : Option Stage) (tip : Option ℕ) : Type 0 where
  pub places : Places
  pub is : IsRowLowered new.vertices tips row tip places
  pub grows : Grows old new places
  pub inside : (id : ℕ) → tip ≡ Some id → id < length new.vertices
  pub uses : Uses old new (λ s. RowNames (HasTree s) row) (2 * row_steps row)

-- some rows, the first ones of a file, were lowered
pub record AreRowsPut (rows : Rows) (graph : GraphValue) (tips : Tips) : Type 0 where
  pub places : Places
  pub are : AreRowsLowered graph.vertices [] rows tips places
  pub grows : Grows no_graph graph places
  pub inside : AreInside tips (length graph.vertices)
  pub there : (number : ℕ) (stage : Stage) → slice_get rows number ≡ Some (Some stage) → (id : ℕ) × (slice_get tips number ≡ Some (Some id))
  pub uses : Uses no_graph graph (λ s. All (RowNames (HasTree s)) rows) (2 * count_of_steps rows)
