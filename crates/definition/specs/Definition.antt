-- The definition text of a graph (own, after BuildKit's LLB definition): its operations in order, each with the lines that it comes from, and
-- an end that points to the result.
use Rattle.std.specs.Prelude.{◌≡◌, ◌<◌, ℕ, length, Some, None, Result, Ok, Err, List, [], ◌∷◌, ◌++◌, codes, slice_index_or}
use Rattle.serde_json.specs.Data.{Data, number, unsigned, string, array, object, no_members, member}
use Rattle.serde_json.specs.View.{items_of}
use Rattle.serde_json.specs.Written.{compact_text}
use Rattle.std.specs.List.{AllByRecursion}
use Rattle.llb.specs.declared.vertex.Vertex.{Vertex}
use Rattle.llb.specs.Graph.{GraphValue}
use Rattle.operations.specs.Proper.{IsProper}
use Rattle.plain.specs.declared.fault.Fault.{Fault}
use Rattle.plain.specs.declared.fault.Fault.TheVariants.{Because, Memory}
use Rattle.definition.specs.declared.fault.Defect.{Defect}
use Rattle.definition.specs.declared.fault.Defect.TheVariants.{Malformed, Unknown, Repeated, Clash}
use Rattle.strict.specs.Written.{list_data}
use Rattle.addresses.specs.Address.{addresses_of, data_after, clash_after}
use Rattle.definition.specs.Lines.{lined_all}

-- the end of a definition, which points to the result
unfoldable pub end_data : List ℕ → Data
end_data address = object (member (codes "inputs") (list_data string (address ∷ []))
    (member (codes "op") (string (codes "end")) no_members))

-- a definition of this version, from its operations and its end
unfoldable pub whole_data : ℕ → List Data → Data
whole_data version operations = object (member (codes "ops") (array (items_of operations)) (member (codes "version") (number (unsigned version)) no_members))

-- the end of the definition of vertices and their result
abbrev pub end_of : List Vertex → ℕ → Data
end_of vertices wanted = end_data (slice_index_or (addresses_of vertices) wanted [])

-- the definition of a graph and its result, in version 2: each operation says its lines
abbrev pub definition_data : GraphValue → ℕ → Data
definition_data graph wanted = whole_data 2 (lined_all graph.places (data_after [] graph.vertices) ++ end_of graph.vertices wanted ∷ [])

-- the same in version 1: no operation says lines
abbrev pub first_definition_data : List Vertex → ℕ → Data
first_definition_data vertices wanted = whole_data 1 (data_after [] vertices ++ end_of vertices wanted ∷ [])

abbrev pub definition_text : GraphValue → ℕ → List ℕ
definition_text graph wanted = compact_text (definition_data graph wanted)

-- what writing a definition answers: its text where all addresses differ, else the first vertex that has the address of another,
-- different one before it; want of memory says nothing
abbrev pub IsWritten : GraphValue → ℕ → Result (List ℕ) (Fault Defect) → Type 0
IsWritten graph wanted (Ok text) = (clash_after [] graph.vertices ≡ None) × (text ≡ definition_text graph wanted)
IsWritten graph wanted (Err (Because (Clash place))) = clash_after [] graph.vertices ≡ Some place
IsWritten graph wanted (Err Memory) = Unit {0}
IsWritten graph wanted (Err (Because (Malformed place))) = ⊥
IsWritten graph wanted (Err (Because (Unknown place))) = ⊥
IsWritten graph wanted (Err (Because (Repeated place))) = ⊥

-- two numbers, the first before the second, at which a list has one address
pub record AreAlike (known : List (List ℕ)) (first second : ℕ) : Type 0 where
  pub before : first < second
  pub inside : second < length known
  pub same : slice_index_or known first [] ≡ slice_index_or known second []

-- the operations of some vertices hold what their types keep
abbrev pub AreProper : List Vertex → Type 0
AreProper vertices = AllByRecursion (λ (vertex : Vertex). IsProper vertex.op) vertices
