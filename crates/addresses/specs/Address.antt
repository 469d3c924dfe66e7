-- The address of an operation: the SHA-256 of its compact text (own; BuildKit's LLB names its operations by digests of their bytes).
-- It speaks of its inputs by their addresses, so that the addresses of a graph's vertices are told from left to right.
use Rattle.std.specs.Prelude.{◌≡◌, ℕ, Option, Some, None, List, [], ◌∷◌, ◌++◌, map, codes, bytes_eq, is_some, ◌+◌, length, if◌then◌else◌, slice_get, slice_index_or}
use Rattle.std.specs.Option.{option_map}
use Rattle.serde_json.specs.Data.{Data}
use Rattle.serde_json.specs.Written.{compact_text}
use Rattle.sha2.specs.Sha256.{sha256}
use Rattle.hex.specs.Hex.{encode_lower}
use Rattle.llb.specs.declared.vertex.Vertex.{Vertex}
use Rattle.operations.specs.Texts.{op_data}
use Rattle.strict.specs.Strict.{with_first}

-- the address of an operation, by its data
unfoldable pub address_of : Data → List ℕ
address_of d = codes "sha256:" ++ encode_lower (sha256 (compact_text d))

-- the addresses of some vertices, in a graph whose vertices have these
abbrev pub addresses_at : List (List ℕ) → List ℕ → List (List ℕ)
addresses_at known ids = map (λ id. slice_index_or known id []) ids

-- a vertex as JSON data, in a graph whose vertices have these addresses
abbrev pub vertex_data : List (List ℕ) → Vertex → Data
vertex_data known vertex = op_data (addresses_at known vertex.inputs) vertex.op

-- its address
abbrev pub vertex_address : List (List ℕ) → Vertex → List ℕ
vertex_address known vertex = address_of (vertex_data known vertex)

-- the addresses of vertices that stand after others with these
abbrev pub addresses_after : List (List ℕ) → List Vertex → List (List ℕ)
addresses_after known [] = known
addresses_after known (vertex ∷ vertices) = addresses_after (known ++ vertex_address known vertex ∷ []) vertices

-- the addresses of the vertices of a graph
abbrev pub addresses_of : List Vertex → List (List ℕ)
addresses_of vertices = addresses_after [] vertices

-- the vertices themselves as JSON data
abbrev pub data_after : List (List ℕ) → List Vertex → List Data
data_after known [] = []
data_after known (vertex ∷ vertices) = vertex_data known vertex ∷ data_after (known ++ vertex_address known vertex ∷ []) vertices

-- the place of an address among others: the first one
abbrev pub place_of : List (List ℕ) → List ℕ → Option ℕ
place_of [] address = None
place_of (a ∷ known) address = if bytes_eq a address then Some 0 else option_map (λ place. place + 1) (place_of known address)

-- the places of some addresses, where each has one
abbrev pub places_of : List (List ℕ) → List (List ℕ) → Option (List ℕ)
places_of known [] = Some []
places_of known (address ∷ addresses) = with_first (place_of known address) (places_of known addresses)

-- the first place of an address is its only one
pub record AreOnce (known : List (List ℕ)) : Type 0 where
  pub at : (place : ℕ) (address : List ℕ) → slice_get known place ≡ Some address → place_of known address ≡ Some place

-- the number of the first vertex that has an address before it; none where all addresses differ
abbrev pub clash_after : List (List ℕ) → List Vertex → Option ℕ
clash_after known [] = None
clash_after known (vertex ∷ vertices) =
    if is_some (place_of known (vertex_address known vertex)) then Some (length known)
    else clash_after (known ++ vertex_address known vertex ∷ []) vertices
