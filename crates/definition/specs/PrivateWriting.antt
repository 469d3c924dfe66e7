-- What the functions that write a definition operation by operation answer (own). A definition that is written has no other fault than a clash.
use Rattle.std.specs.Prelude.{◌≡◌, ◌≤◌, ℕ, false, Some, None, Result, Ok, Err, List, [], ◌∷◌, ◌++◌, length}
use Rattle.serde_json.specs.Data.{Data, depth}
use Rattle.serde_json.specs.Read.{read}
use Rattle.serde_json.specs.Written.{has_float, compact_text}
use Rattle.llb.specs.declared.vertex.Vertex.{Vertex}
use Rattle.llb.specs.Graph.{GraphValue}
use Rattle.operations.specs.Proper.{IsProper}
use Rattle.plain.specs.declared.fault.Fault.{Fault}
use Rattle.plain.specs.declared.fault.Fault.TheVariants.{Because, Memory}
use Rattle.addresses.specs.Address.{address_of, vertex_data, addresses_of, data_after, place_of, clash_after}
use Rattle.definition.specs.declared.fault.Defect.{Defect}
use Rattle.definition.specs.declared.fault.Defect.TheVariants.{Malformed, Unknown, Repeated, Clash}
use Rattle.definition.specs.Definition.{AreProper, end_of}
use Rattle.definition.specs.Lines.{lined, lined_all}

-- an address that is known, at a place
abbrev pub IsKnown : List (List ℕ) → List ℕ → Type 0
IsKnown known address = (before : ℕ) × (place_of known address ≡ Some before)

-- the address of one operation more wasn't known and comes last
abbrev pub IsAdded : Data → List (List ℕ) → List (List ℕ) → Type 0
IsAdded d known new = (place_of known (address_of d) ≡ None) × (new ≡ known ++ address_of d ∷ [])

-- the same, or it is known
abbrev pub IsNamed : Data → List (List ℕ) → List (List ℕ) → Result (Unit {0}) (Fault Defect) → Type 0
IsNamed d known new (Ok _) = IsAdded d known new
IsNamed d known new (Err (Because (Clash place))) = (place ≡ length known) × IsKnown known (address_of d)
IsNamed d known new (Err (Because (Malformed place))) = ⊥
IsNamed d known new (Err (Because (Unknown place))) = ⊥
IsNamed d known new (Err (Because (Repeated place))) = ⊥
IsNamed d known new (Err Memory) = Unit {0}

-- the same of a vertex, which comes last with its lines among what is written
abbrev pub IsPut : Vertex → List ℕ → List (List ℕ) → List (List ℕ) → List Data → List Data → Result (Unit {0}) (Fault Defect) → Type 0
IsPut vertex lines known new ds put (Ok _) =
    IsAdded (vertex_data known vertex) known new × ((put ≡ ds ++ lined lines (vertex_data known vertex) ∷ []) × IsProper vertex.op)
IsPut vertex lines known new ds put (Err fault) = IsNamed (vertex_data known vertex) known new (Err fault)

-- all operations of a graph are written, with their lines, and all their addresses are known
pub record AreAllPut (graph : GraphValue) (known : List (List ℕ)) (ds : List Data) : Type 0 where
  pub clear : clash_after [] graph.vertices ≡ None
  pub addresses : known ≡ addresses_of graph.vertices
  pub operations : ds ≡ lined_all graph.places (data_after [] graph.vertices)
  pub proper : AreProper graph.vertices

-- the fault of writing a graph
abbrev pub IsClash : GraphValue → Fault Defect → Type 0
IsClash graph (Because (Clash place)) = clash_after [] graph.vertices ≡ Some place
IsClash graph (Because (Malformed place)) = ⊥
IsClash graph (Because (Unknown place)) = ⊥
IsClash graph (Because (Repeated place)) = ⊥
IsClash graph Memory = Unit {0}

-- what writing all operations answers
abbrev pub ArePut : GraphValue → List (List ℕ) → List Data → Result (Unit {0}) (Fault Defect) → Type 0
ArePut graph known ds (Ok _) = AreAllPut graph known ds
ArePut graph known ds (Err fault) = IsClash graph fault

-- the same of a whole definition: after the operations comes the end
abbrev pub IsWholePut : GraphValue → ℕ → List Data → Result (Unit {0}) (Fault Defect) → Type 0
IsWholePut graph wanted ds (Ok _) =
    (clash_after [] graph.vertices ≡ None) × ((ds ≡ lined_all graph.places (data_after [] graph.vertices) ++ end_of graph.vertices wanted ∷ []) × AreProper graph.vertices)
IsWholePut graph wanted ds (Err fault) = IsClash graph fault

-- a text is that of data, if it has no float, and reads back as it, if it isn't too deep
pub record IsTextOf (d : Data) (text : List ℕ) : Type 0 where
  pub compact : has_float d ≡ false → text ≡ compact_text d
  pub back : depth d ≤ 127 → read text ≡ Some d
