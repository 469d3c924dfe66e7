-- A plan as a definition (own; BuildKit's LLB, `Definition`): the operations that its vertices are, in their order and each once, and an end
-- that names the result; and what is said of each. An operation speaks of others by their digests, so there is no definition where two different
-- ones have one digest.
use Rattle.std.specs.Prelude.{◌≡◌, ℕ, Bool, true, false, ◌&&◌, ◌||◌, Option, Some, None, Result, Ok, Err, List, [], ◌∷◌, ◌++◌, length, bytes_eq, nat_le, ◌==◌, if◌then◌else◌, slice_index_or}
use Rattle.std.specs.BTreeMap.{insert_entry}
use Rattle.plain.specs.declared.fault.Fault.{Fault}
use Rattle.plain.specs.declared.fault.Fault.TheVariants.{Because, Memory}
use Rattle.paths.specs.Order.{name_cmp}
use Rattle.llb.specs.declared.op.Source.TheVariants.{Scratch, Context, Image}
use Rattle.llb.specs.declared.op.Op.{Op as Work}
use Rattle.llb.specs.declared.op.Op.TheVariants.{Source as SourceWork, Exec as ExecWork, Copy as CopyWork, MakeDirs as MakeDirsWork, Merge as MergeWork}
use Rattle.llb.specs.declared.vertex.Vertex.{Vertex}
use Rattle.llb.specs.Graph.{GraphValue}
use Rattle.llb.specs.Places.{least_line}
use Rattle.llbmessages.specs.declared.op.Op.{Op}
use Rattle.llbmessages.specs.declared.op.OpKind.TheVariants.{File as FileKind}
use Rattle.llbmessages.specs.declared.definition.OpMetadata.{OpMetadata}
use Rattle.llbmessages.specs.declared.definition.Definition.{Definition}
use Rattle.llbmessages.specs.Op.{op_bytes}
use Rattle.llbmessages.specs.Definition.{definition_bytes, read_definition}
use Rattle.exported.specs.declared.making.Options.{Options}
use Rattle.exported.specs.declared.making.Made.{Made}
use Rattle.exported.specs.declared.making.Made.TheVariants.{Same, By}
use Rattle.exported.specs.declared.fault.Obstacle.{Obstacle}
use Rattle.exported.specs.declared.fault.Obstacle.TheVariants.{Unspeakable, Clash}
use Rattle.exported.specs.Patterns.{escapes}
use Rattle.exported.specs.Places.{digest_of}
use Rattle.exported.specs.Operations.{op_on, end_op}
use Rattle.exported.specs.Files.{make_dir_actions}
use Rattle.exported.specs.Making.{vertex_made}
use Rattle.exported.specs.Metadata.{vertex_name, metadata_of, end_metadata}

-- what follows a step that may have met an obstacle
abbrev pub and_then : {A B : Type 0} → Result A Obstacle → (A → Result B Obstacle) → Result B Obstacle
and_then (Ok value) next = next value
and_then (Err obstacle) next = Err obstacle

-- ---- what can be said to BuildKit

-- a character that stands for itself, in patterns that BuildKit takes to the files: it hands them on as headers of a transfer, which have
-- none beyond ASCII and no control characters (BuildKit)
unfoldable pub is_carried : ℕ → Bool
is_carried byte = nat_le 32 byte && nat_le byte 126

-- a character that stands for such a one after a `\` of JSON: `"`, `\` and `/`
unfoldable pub is_carried_escape : ℕ → Bool
is_carried_escape byte = byte == 34 || (byte == 92 || byte == 47)

-- whether all characters that a JSON text says are carried
abbrev pub are_carried : Bool → List ℕ → Bool
are_carried escaped [] = true
are_carried escaped (byte ∷ bytes) =
    if (if escaped then is_carried_escape byte else is_carried byte) then are_carried (escapes escaped byte) bytes else false

-- whether the patterns can be said, if there are some
abbrev pub can_exclude : Option (List ℕ) → Bool
can_exclude None = true
can_exclude (Some patterns) = are_carried false patterns

-- whether an operation can be said to BuildKit: the files of a build come without those of patterns, and only those of others
abbrev pub is_speakable : Options → Work → Bool
is_speakable options (SourceWork Scratch) = true
is_speakable options (SourceWork Context) = can_exclude options.excludes && can_exclude options.follows
is_speakable options (SourceWork (Image name)) = true
is_speakable options (ExecWork exec) = true
is_speakable options (CopyWork files) = true
is_speakable options (MakeDirsWork path) = true
is_speakable options MergeWork = true

-- ---- operations, each once

-- the first operation that has a digest, by its bytes
abbrev pub op_at : List (List ℕ) → List ℕ → Option (List ℕ)
op_at [] digest = None
op_at (bytes ∷ ops) digest = if bytes_eq (digest_of bytes) digest then Some bytes else op_at ops digest

-- a definition with one more operation, of which this is said; what is said stands in the order of the digests (BuildKit's own writer)
abbrev pub with_last : Definition → List ℕ → OpMetadata → Definition
with_last definition bytes said =
    record { ops = definition.ops ++ bytes ∷ []; metadata = insert_entry name_cmp definition.metadata (digest_of bytes) said }

-- a definition with one more operation, where this one has its digest: the same isn't written twice, and what was said of it first counts; a
-- different one is a clash
abbrev pub with_found : ℕ → Definition → List ℕ → OpMetadata → Option (List ℕ) → Result Definition Obstacle
with_found number definition bytes said None = Ok (with_last definition bytes said)
with_found number definition bytes said (Some other) = if bytes_eq other bytes then Ok definition else Err (Clash number)

-- a definition with the operation of a vertex, of which `number` is the number
abbrev pub with_op : ℕ → Definition → List ℕ → OpMetadata → Result Definition Obstacle
with_op number definition bytes said = with_found number definition bytes said (op_at definition.ops (digest_of bytes))

-- ---- vertices

-- the place of what a vertex of this name is, and the definition with its operation
abbrev pub placed : ℕ → Definition → Option (List ℕ) → Made → Result (Option (List ℕ) × Definition) Obstacle
placed number definition name (Same place) = Ok (place, definition)
placed number definition name (By op) =
    and_then (with_op number definition (op_bytes op) (metadata_of name op)) (λ more. Ok (Some (digest_of (op_bytes op)), more))

-- the place of a vertex, of which those before have these places, and the definition with its operation. `names` has the names of lines, and
-- `line` is the least behind the vertex
unfoldable pub vertex_placed : Options → List (Option (List ℕ)) → ℕ → List (Option (List ℕ)) → Definition → Vertex → Result (Option (List ℕ) × Definition) Obstacle
vertex_placed options names line places definition vertex =
    if is_speakable options vertex.op
    then placed (length places) definition (vertex_name names line vertex.op) (vertex_made options places vertex)
    else Err (Unspeakable (length places))

-- the places of all vertices, of which those before have these, and the definition with their operations; `lines` has the lines behind each vertex
abbrev pub all_placed : Options → List (Option (List ℕ)) → List (List ℕ) → List (Option (List ℕ)) → Definition → List Vertex → Result (List (Option (List ℕ)) × Definition) Obstacle
all_placed options names lines places definition [] = Ok (places, definition)
all_placed options names lines places definition (vertex ∷ vertices) =
    and_then (vertex_placed options names (least_line (slice_index_or lines (length places) [])) places definition vertex)
    (λ next. all_placed options names lines (places ++ next.0 ∷ []) next.1 vertices)

-- ---- the whole

-- no operation yet
abbrev pub nothing : Definition
nothing = record { ops = []; metadata = [] }

-- the operation that makes the root of an empty tree: an end has to name an operation
unfoldable pub root_op : Options → Op
root_op options = op_on (Some options.platform) [] (FileKind (record { actions = make_dir_actions [] [] }))

-- a definition with its end, where the operation of this digest has the result
unfoldable pub ended_at : Definition → List ℕ → Definition
ended_at definition digest = with_last definition (op_bytes (end_op digest)) (end_metadata definition.metadata)

-- a definition with its end, whose result is at this place; `number` is how many vertices there are
abbrev pub ended : Options → ℕ → Definition → Option (List ℕ) → Result Definition Obstacle
ended options number definition (Some digest) = Ok (ended_at definition digest)
ended options number definition None =
    and_then (with_op number definition (op_bytes (root_op options)) (metadata_of None (root_op options)))
    (λ more. Ok (ended_at more (digest_of (op_bytes (root_op options)))))

-- the definition of a graph and its result; or the first vertex that stands in its way. `names` has what progress calls the instruction of each
-- line, if it has a name
abbrev pub exported : Options → List (Option (List ℕ)) → GraphValue → ℕ → Result Definition Obstacle
exported options names graph wanted =
    and_then (all_placed options names graph.places [] nothing graph.vertices)
    (λ known. ended options (length graph.vertices) known.1 (slice_index_or known.0 wanted None))

-- what exporting answers: the bytes of just that definition, which are read as it; or the obstacle. Want of memory says nothing
abbrev pub IsExported : Result Definition Obstacle → Result (List ℕ) (Fault Obstacle) → Type 0
IsExported told (Ok bytes) =
    (definition : Definition) × ((told ≡ Ok definition) × ((bytes ≡ definition_bytes definition) × (read_definition bytes ≡ Some definition)))
IsExported told (Err (Because obstacle)) = told ≡ Err obstacle
IsExported told (Err Memory) = Unit {0}
