-- what reading a definition tells: the graph and its result, or the first fault in the order of the operations (own).
use Rattle.std.specs.Prelude.{map, ◌≡◌, ℕ, ◌⊎◌, Bool, true, false, Option, Some, None, Result, Ok, Err, List, [], ◌∷◌, ◌++◌, codes, bytes_eq, length, slice_get, is_some, if◌then◌else◌, nat_le, ◌==◌}
use Rattle.std.specs.Option.{option_map, option_and_then}
use Rattle.serde_json.specs.Data.{Data, Items, no_items, item}
use Rattle.serde_json.specs.Find.{get, as_str, as_array, as_number, as_u64}
use Rattle.serde_json.specs.Read.{read}
use Rattle.std.specs.Coded.{Coded}
use Rattle.llb.specs.contracts.graph.Graph as graphs
use Rattle.llb.specs.declared.vertex.Vertex.{Vertex}
use Rattle.llb.specs.Graph.{GraphValue, IsNew}
use Rattle.plain.specs.declared.fault.Fault.{Fault}
use Rattle.plain.specs.declared.fault.Fault.TheVariants.{Because, Memory}
use Rattle.plain.specs.Limits.{most_vertices}
use Rattle.definition.specs.declared.fault.Defect.{Defect}
use Rattle.definition.specs.declared.fault.Defect.TheVariants.{Malformed, Unknown, Repeated, Clash}
use Rattle.operations.specs.declared.spelled.Spelled.{Spelled}
use Rattle.addresses.specs.Address.{addresses_of, vertex_address, place_of, places_of}
use Rattle.definition.specs.Lines.{operation_in}
use Rattle.strict.specs.Strict.{strict}
use Rattle.operations.specs.Spelled.{spelled_in, inputs_in}

-- the vertex that was spelled, in a graph whose vertices have these addresses; none where an input names none of them
abbrev pub named_in : List (List ℕ) → Spelled → Option Vertex
named_in known told = option_map (λ ids. record { op = told.op; inputs = ids }) (places_of known told.inputs)

-- a JSON value spells a vertex that stands after these
pub record Spells (before : List Vertex) (d : Data) (vertex : Vertex) : Type 0 where
  pub told : Spelled
  pub spelled : spelled_in d ≡ Some told
  pub named : named_in (addresses_of before) told ≡ Some vertex

-- the place of a vertex' address among those before it
abbrev pub address_place : List Vertex → Vertex → Option ℕ
address_place before vertex = place_of (addresses_of before) (vertex_address (addresses_of before) vertex)

-- what one operation tells that is read after these vertices: its vertex, which is new and has a new address; or its first
-- fault, with its place; want of memory tells nothing
abbrev pub IsNext : List Vertex → Data → Result Vertex (Fault Defect) → Type 0
IsNext before d (Ok vertex) = Spells before d vertex × (IsNew before vertex × (address_place before vertex ≡ None))
IsNext before d (Err (Because (Malformed place))) = (place ≡ length before) × (spelled_in d ≡ None)
IsNext before d (Err (Because (Unknown place))) = (place ≡ length before) × ((told : Spelled) × ((spelled_in d ≡ Some told) × (named_in (addresses_of before) told ≡ None)))
IsNext before d (Err (Because (Repeated place))) = (place ≡ length before) × ((vertex : Vertex) × (Spells before d vertex × ((k : ℕ) × (slice_get before k ≡ Some vertex))))
IsNext before d (Err (Because (Clash place))) = (place ≡ length before) × ((vertex : Vertex) × (Spells before d vertex × (IsNew before vertex × (is_some (address_place before vertex) ≡ true))))
IsNext before d (Err Memory) = Unit {0}

-- a graph with one more vertex, and the lines behind it
abbrev pub grown : GraphValue → Vertex → List ℕ → GraphValue
grown graph vertex lines = record { vertices = graph.vertices ++ vertex ∷ []; places = graph.places ++ lines ∷ [] }

-- operations, each with its lines beside it
abbrev pub Operations : Type 0
Operations = List (Data × List ℕ)

-- what operations tell that are read one after another, after this graph: the graph of all, or the first fault
abbrev pub IsReadAfter : GraphValue → Operations → Result GraphValue (Fault Defect) → Type 0
IsReadAfter before [] (Ok after) = after ≡ before
IsReadAfter before [] (Err fault) = ⊥
IsReadAfter before (o ∷ os) (Ok after) = (vertex : Vertex) × (IsNext before.vertices o.0 (Ok vertex) × IsReadAfter (grown before vertex o.1) os (Ok after))
IsReadAfter before (o ∷ os) (Err fault) =
    IsNext before.vertices o.0 (Err fault) ⊎ ((vertex : Vertex) × (IsNext before.vertices o.0 (Ok vertex) × IsReadAfter (grown before vertex o.1) os (Err fault)))

-- the graph without a vertex
abbrev pub no_graph : GraphValue
no_graph = record { vertices = []; places = [] }

-- a single one
abbrev pub only : List (List ℕ) → Option (List ℕ)
only [] = None
only (address ∷ []) = Some address
only (address ∷ other ∷ rest) = None

-- the address that an end points to
unfoldable pub end_in : Data → Option (List ℕ)
end_in d = option_and_then (λ _. option_and_then only (inputs_in d)) (strict (codes "inputs" ∷ codes "op" ∷ []) d)

-- what an end tells that is read after these vertices: the result, or its fault
abbrev pub IsEnd : List Vertex → Data → Result ℕ (Fault Defect) → Type 0
IsEnd before d (Ok id) = (address : List ℕ) × ((end_in d ≡ Some address) × (place_of (addresses_of before) address ≡ Some id))
IsEnd before d (Err (Because (Malformed place))) = (place ≡ length before) × (end_in d ≡ None)
IsEnd before d (Err (Because (Unknown place))) = (place ≡ length before) × ((address : List ℕ) × ((end_in d ≡ Some address) × (place_of (addresses_of before) address ≡ None)))
IsEnd before d (Err (Because (Repeated place))) = ⊥
IsEnd before d (Err (Because (Clash place))) = ⊥
IsEnd before d (Err Memory) = Unit {0}

-- whether a text is there, and this one
abbrev pub is_kind : List ℕ → Option (List ℕ) → Bool
is_kind kind None = false
is_kind kind (Some text) = bytes_eq text kind

-- whether a value says that it is an end
abbrev pub is_end : Data → Bool
is_end d = is_kind (codes "end") (option_and_then as_str (get (codes "op") d))

-- values of which the last one alone says that it is an end: those before it, and it
abbrev pub parted : List Data → Option (List Data × Data)
parted [] = None
parted (d ∷ []) = if is_end d then Some ([], d) else None
parted (d ∷ next ∷ ds) = if is_end d then None else option_map (λ parts. (d ∷ parts.0, parts.1)) (parted (next ∷ ds))

-- the same, where there are no more operations than a graph has
abbrev pub few_of : List Data × Data → Option (List Data × Data)
few_of parts = if nat_le (length parts.0) most_vertices then Some parts else None

unfoldable pub parted_few : List Data → Option (List Data × Data)
parted_few ds = option_and_then few_of (parted ds)

abbrev pub list_of : Items → List Data
list_of no_items = []
list_of (item d ds) = d ∷ list_of ds

-- the values of a list
abbrev pub as_list : Data → Option (List Data)
as_list d = option_map list_of (as_array d)

-- whether operations have to say their lines, by the number of the version: not in version 1, in version 2 they do; there is no other
abbrev pub says_lines : ℕ → Option Bool
says_lines version = if version == 1 then Some false else if version == 2 then Some true else None

-- the same by what stands for the version
abbrev pub version_in : Data → Option Bool
version_in d = option_and_then says_lines (option_and_then as_u64 (as_number d))

-- the operations and the end of a definition, where a value has that shape
unfoldable pub parts_in : Data → Option (Operations × Data)
parts_in d =
    option_and_then (λ _.
    option_and_then (λ says.
    option_map (λ parts. (map (operation_in says) parts.0, parts.1)) (option_and_then parted_few (option_and_then as_list (get (codes "ops") d))))
    (option_and_then version_in (get (codes "version") d)))
    (strict (codes "ops" ∷ codes "version" ∷ []) d)

-- the same of a text
abbrev pub parts_of : List ℕ → Option (Operations × Data)
parts_of text = option_and_then parts_in (read text)

-- a fault of a text: it has another shape; or an operation tells it, or the end after all operations
abbrev pub IsFault : List ℕ → (Fault Defect) → Type 0
IsFault text fault =
    ((parts_of text ≡ None) × (fault ≡ Because (Malformed 0)))
    ⊎ ((operations : Operations) × ((last : Data) × ((parts_of text ≡ Some (operations, last))
    × (IsReadAfter no_graph operations (Err fault) ⊎ ((graph : GraphValue) × (IsReadAfter no_graph operations (Ok graph) × IsEnd graph.vertices last (Err fault)))))))

-- what reading a text tells: the graph and the result, or the first fault; want of memory tells nothing
abbrev pub IsReadAs : List ℕ → Result (GraphValue × ℕ) (Fault Defect) → Type 0
IsReadAs text (Ok (graph, wanted)) =
    (operations : Operations) × ((last : Data) × ((parts_of text ≡ Some (operations, last)) × (IsReadAfter no_graph operations (Ok graph) × IsEnd graph.vertices last (Ok wanted))))
IsReadAs text (Err (Because (Malformed place))) = IsFault text (Because (Malformed place))
IsReadAs text (Err (Because (Unknown place))) = IsFault text (Because (Unknown place))
IsReadAs text (Err (Because (Repeated place))) = IsFault text (Because (Repeated place))
IsReadAs text (Err (Because (Clash place))) = IsFault text (Because (Clash place))
IsReadAs text (Err Memory) = Unit {0}

-- the graph of some vertices, with no lines behind them: what a definition of version 1 is read as
abbrev pub graph_of : List Vertex → GraphValue
graph_of vertices = record { vertices = vertices; places = map (λ _. []) vertices }

-- a graph in plain data, for generic code (own)
abbrev pub graph_code : Coded GraphValue
graph_code = graphs.the_row.coded

-- a fault that tells something
abbrev pub IsReason : Fault Defect → Type 0
IsReason Memory = ⊥
IsReason (Because (Malformed n)) = Unit {0}
IsReason (Because (Unknown n)) = Unit {0}
IsReason (Because (Repeated n)) = Unit {0}
IsReason (Because (Clash n)) = Unit {0}

-- an answer that tells something
abbrev pub IsConclusive : Result (GraphValue × ℕ) (Fault Defect) → Type 0
IsConclusive (Ok parts) = Unit {0}
IsConclusive (Err fault) = IsReason fault
