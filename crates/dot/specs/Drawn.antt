-- A plan in the DOT language (Graphviz, The DOT Language; own): statements, each on a line of its own. First the sources, then the caches, then the
-- other operations in clusters by stages, and last the edges.
use Rattle.std.specs.Prelude.{ℕ, ◌+◌, ◌==◌, Bool, List, [], ◌∷◌, ◌++◌, codes, length, bytes_eq, suc, slice_index_or, if◌then◌else◌}
use Rattle.std.specs.Fmt.{decimal}
use Rattle.std.specs.List.{flat_map}
use Rattle.paths.specs.Path.{text_of}
use Rattle.runs.specs.declared.run.CacheUse.{CacheUse}
use Rattle.llb.specs.declared.op.Op.{Op}
use Rattle.llb.specs.declared.vertex.Vertex.{Vertex}
use Rattle.llb.specs.Graph.{GraphValue}
use Rattle.plans.specs.Plan.{caches_of}
use Rattle.dot.specs.Quoted.{shown}
use Rattle.dot.specs.Labels.{Titles, label, shape_of, is_source, title_at, stage_in, input_attributes}

-- a statement of a drawing
pub data Statement : Type 0 where
  -- a node: the vertex of this number
  Node : (number : ℕ) → (label : List ℕ) → (shape : List ℕ) → (is_target : Bool) → Statement
  -- a node: a cache
  Cache : (number : ℕ) → (id : List ℕ) → Statement
  -- the cluster of a stage begins, with its name; the last one ends
  Begin : (stage : List ℕ) → Statement
  End : Statement
  -- an edge: from an input to the vertex that uses it
  Edge : (from to : ℕ) → (attributes : List ℕ) → Statement
  -- an edge: from a cache to the vertex that mounts it at this path
  Mount : (cache to : ℕ) → (target : List ℕ) → Statement

-- the target has a double border
abbrev pub mark : Bool → List ℕ
mark is_target = if is_target then codes " peripheries=2" else []

-- a statement as it is written. Two subgraphs of one name are one
unfoldable pub line_of : Statement → List ℕ
line_of (Node number label shape is_target) =
    codes "  v" ++ (decimal number ++ (codes " [label=\"" ++ (label ++ (codes "\" shape=" ++ (shape ++ (mark is_target ++ codes "];\n"))))))
line_of (Cache number id) = codes "  c" ++ (decimal number ++ (codes " [label=\"cache " ++ (shown id ++ codes "\" shape=cylinder];\n")))
line_of (Begin stage) = (codes "  subgraph \"cluster_" ++ (shown stage ++ codes "\" {\n")) ++ (codes "  label=\"" ++ (shown stage ++ codes "\";\n"))
line_of End = codes "  }\n"
line_of (Edge from to attributes) = codes "  v" ++ (decimal from ++ (codes " -> v" ++ (decimal to ++ (attributes ++ codes ";\n"))))
line_of (Mount cache to target) =
    codes "  c" ++ (decimal cache ++ (codes " -> v" ++ (decimal to ++ (codes " [label=\"" ++ (shown target ++ codes "\" style=dotted];\n")))))

-- statements as they are written, one after another
abbrev pub lines_of : List Statement → List ℕ
lines_of statements = flat_map line_of statements

-- ---- nodes

-- the node of a vertex with these lines
abbrev pub node : Titles → ℕ → List ℕ → ℕ → Op → Statement
node titles target lines number op = Node number (label titles lines op) (shape_of op) (number == target)

-- the nodes of those of some vertices that are sources; `number` is that of the first of these, and `places` has the lines of all
abbrev pub sources : Titles → ℕ → List (List ℕ) → ℕ → List Vertex → List Statement
sources titles target places number [] = []
sources titles target places number (v ∷ vs) =
    if is_source v.op
    then node titles target (slice_index_or places number []) number v.op ∷ sources titles target places (number + 1) vs
    else sources titles target places (number + 1) vs

-- the cluster of a stage ends, unless it has no name
abbrev pub ended : List ℕ → List Statement
ended [] = []
ended (b ∷ bs) = End ∷ []

-- the cluster of a stage begins, unless it has no name
abbrev pub begun : List ℕ → List Statement
begun [] = []
begun (b ∷ bs) = Begin (b ∷ bs) ∷ []

-- what comes between an operation of one stage and one of another
abbrev pub between : List ℕ → List ℕ → List Statement
between stage next = if bytes_eq stage next then [] else ended stage ++ begun next

-- the nodes of those of some vertices that are no sources, where those before end in this stage. A vertex is in the stage that its title names
abbrev pub steps : Titles → ℕ → List (List ℕ) → List ℕ → ℕ → List Vertex → List Statement
steps titles target places stage number [] = ended stage
steps titles target places stage number (v ∷ vs) =
    if is_source v.op
    then steps titles target places stage (number + 1) vs
    else between stage (stage_in (title_at titles (slice_index_or places number [])))
    ++ (node titles target (slice_index_or places number []) number v.op
    ∷ steps titles target places (stage_in (title_at titles (slice_index_or places number []))) (number + 1) vs)

-- ---- caches

-- the number of an id among others; how many they are if it isn't one of them
abbrev pub number_of : List (List ℕ) → List ℕ → ℕ
number_of [] id = 0
number_of (first ∷ ids) id = if bytes_eq first id then 0 else suc (number_of ids id)

-- ids with one more, if it isn't there
abbrev pub with_id : List (List ℕ) → List ℕ → List (List ℕ)
with_id ids id = if number_of ids id == length ids then ids ++ id ∷ [] else ids

-- ids with those of some caches that aren't there
abbrev pub with_ids : List (List ℕ) → List CacheUse → List (List ℕ)
with_ids ids [] = ids
with_ids ids (cache ∷ caches) = with_ids (with_id ids cache.id) caches

-- ids with those of the caches of some vertices that aren't there
abbrev pub ids_after : List (List ℕ) → List Vertex → List (List ℕ)
ids_after ids [] = ids
ids_after ids (v ∷ vs) = ids_after (with_ids ids (caches_of v.op)) vs

-- the ids of the caches of some vertices, each once, in the order in which they stand first
abbrev pub ids_of : List Vertex → List (List ℕ)
ids_of vertices = ids_after [] vertices

-- the nodes of caches, of which the first has this number
abbrev pub caches : ℕ → List (List ℕ) → List Statement
caches number [] = []
caches number (id ∷ ids) = Cache number id ∷ caches (number + 1) ids

-- ---- edges

-- the edges from the inputs of a vertex, of which the first has this place among them
abbrev pub inputs : ℕ → Op → ℕ → List ℕ → List Statement
inputs to op place [] = []
inputs to op place (from ∷ more) = Edge from to (input_attributes op place) ∷ inputs to op (place + 1) more

-- the edges from the caches of a vertex
abbrev pub mounts : List (List ℕ) → ℕ → List CacheUse → List Statement
mounts ids to [] = []
mounts ids to (cache ∷ more) = Mount (number_of ids cache.id) to (text_of cache.target) ∷ mounts ids to more

-- the edges to some vertices, of which the first has this number
abbrev pub edges : List (List ℕ) → ℕ → List Vertex → List Statement
edges ids number [] = []
edges ids number (v ∷ vs) = inputs number v.op 0 v.inputs ++ (mounts ids number (caches_of v.op) ++ edges ids (number + 1) vs)

-- ---- a whole drawing

-- the statements of a graph with this target
abbrev pub statements : Titles → GraphValue → ℕ → List Statement
statements titles graph target =
    sources titles target graph.places 0 graph.vertices
    ++ (caches 0 (ids_of graph.vertices)
    ++ (steps titles target graph.places [] 0 graph.vertices
    ++ edges (ids_of graph.vertices) 0 graph.vertices))

-- how all nodes and edges are set, unless they say otherwise
unfoldable pub heading : List ℕ
heading = codes "digraph dfsolve {\n  graph [fontname=\"monospace\" fontsize=10];\n  node [fontname=\"monospace\" fontsize=10];\n  edge [fontname=\"monospace\" fontsize=10];\n"

-- a graph with this target in the DOT language
abbrev pub drawing : Titles → GraphValue → ℕ → List ℕ
drawing titles graph target = heading ++ (lines_of (statements titles graph target) ++ codes "}\n")
