-- What the functions that read a definition operation by operation answer (own).
use Rattle.std.specs.Prelude.{◌≡◌, ℕ, true, Some, None, Result, Ok, Err, List, length, slice_get, is_some}
use Rattle.serde_json.specs.Data.{Data}
use Rattle.llb.specs.declared.vertex.Vertex.{Vertex}
use Rattle.llb.specs.Graph.{GraphValue, IsNew}
use Rattle.plain.specs.declared.fault.Fault.{Fault}
use Rattle.plain.specs.declared.fault.Fault.TheVariants.{Because, Memory}
use Rattle.definition.specs.declared.fault.Defect.{Defect}
use Rattle.definition.specs.declared.fault.Defect.TheVariants.{Malformed, Unknown, Repeated, Clash}
use Rattle.operations.specs.declared.spelled.Spelled.{Spelled}
use Rattle.addresses.specs.Address.{addresses_of}
use Rattle.definition.specs.Reading.{Operations, named_in, address_place, IsNext, IsReadAfter, grown, no_graph}

-- what the next operation tells, of what was spelled: its vertex, which is new and has a new address, or its first fault, with its place
abbrev pub IsPlaced : List Vertex → Spelled → Result Vertex (Fault Defect) → Type 0
IsPlaced before told (Ok vertex) = (named_in (addresses_of before) told ≡ Some vertex) × (IsNew before vertex × (address_place before vertex ≡ None))
IsPlaced before told (Err (Because (Malformed place))) = ⊥
IsPlaced before told (Err (Because (Unknown place))) = (place ≡ length before) × (named_in (addresses_of before) told ≡ None)
IsPlaced before told (Err (Because (Repeated place))) = (place ≡ length before) × ((vertex : Vertex) × ((named_in (addresses_of before) told ≡ Some vertex) × ((k : ℕ) × (slice_get before k ≡ Some vertex))))
IsPlaced before told (Err (Because (Clash place))) = (place ≡ length before) × ((vertex : Vertex) × ((named_in (addresses_of before) told ≡ Some vertex) × (IsNew before vertex × (is_some (address_place before vertex) ≡ true))))
IsPlaced before told (Err Memory) = Unit {0}

-- the vertex of an answer that has its address beside it
abbrev pub told_next : Result (Vertex × List ℕ) (Fault Defect) → Result Vertex (Fault Defect)
told_next (Ok (vertex, address)) = Ok vertex
told_next (Err fault) = Err fault

-- what one operation tells after a graph: that graph with its vertex and its lines, or its fault
abbrev pub IsOneRead : GraphValue → Data × List ℕ → Result GraphValue (Fault Defect) → Type 0
IsOneRead before o (Ok after) = (vertex : Vertex) × (IsNext before.vertices o.0 (Ok vertex) × (after ≡ grown before vertex o.1))
IsOneRead before o (Err fault) = IsNext before.vertices o.0 (Err fault)

-- what all operations tell, but for want of memory
abbrev pub IsAllRead : Operations → Result GraphValue (Fault Defect) → Type 0
IsAllRead os (Ok graph) = IsReadAfter no_graph os (Ok graph)
IsAllRead os (Err (Because (Malformed place))) = IsReadAfter no_graph os (Err (Because (Malformed place)))
IsAllRead os (Err (Because (Unknown place))) = IsReadAfter no_graph os (Err (Because (Unknown place)))
IsAllRead os (Err (Because (Repeated place))) = IsReadAfter no_graph os (Err (Because (Repeated place)))
IsAllRead os (Err (Because (Clash place))) = IsReadAfter no_graph os (Err (Because (Clash place)))
IsAllRead os (Err Memory) = Unit {0}
