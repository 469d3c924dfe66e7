-- What BuildKit is told of the files that a graph names (own; BuildKit, the attribute `local.followpaths`): a list of patterns, each of which relates to
-- one path. BuildKit takes from the folder what is at these paths and below them. The root names all of it, and then nothing is told.
use Rattle.std.specs.Prelude.{ℕ, zero, suc, ◌+◌, ◌==◌, Bool, true, false, Option, Some, None, List, [], ◌∷◌, ◌++◌, slice_get, length, if◌then◌else◌}
use Rattle.std.specs.List.{list_all, list_any}
use Rattle.globs.specs.Glob.{components_of}
use Rattle.llb.specs.declared.op.Source.{Source}
use Rattle.llb.specs.declared.op.Source.TheVariants.{Scratch, Context, Image}
use Rattle.llb.specs.declared.op.Bind.{Bind}
use Rattle.llb.specs.declared.op.FileSource.{FileSource}
use Rattle.llb.specs.declared.op.FileSource.TheVariants.{Pattern, Data}
use Rattle.llb.specs.declared.op.Op.{Op}
use Rattle.llb.specs.declared.op.Op.TheVariants.{Source as SourceOp, Exec as ExecOp, Copy as CopyOp, MakeDirs as MakeDirsOp, Merge as MergeOp}
use Rattle.llb.specs.declared.vertex.Vertex.{Vertex}
use Rattle.llb.specs.Graph.{GraphValue}
use Rattle.exported.specs.Excluding.{exclude_list}
use Rattle.exported.specs.Exporting.{is_carried}
use Rattle.exported.specs.Patterns.{begins, name_of}

-- ---- paths

-- a path, as the names of its components; the root has none
abbrev pub Path : Type 0
Path = List (List ℕ)

-- a path is the root, which has no component
abbrev pub is_root : Path → Bool
is_root path = length path == 0

-- the names before the first that BuildKit can't be told: its transfer carries nothing beyond ASCII, and no control characters
abbrev pub carried_names : List (List ℕ) → Path
carried_names [] = []
carried_names (name ∷ names) = if list_all is_carried name then name ∷ carried_names names else []

-- the names that a pattern's components spell before the first of them that spells none, since it has a sign. One whose name is `.` or `..` ends
-- them too: nothing has such a name
abbrev pub plain_names : List (List ℕ) → List (List ℕ)
plain_names [] = []
plain_names (component ∷ components) = if begins false component then [] else name_of component ∷ plain_names components

-- ---- what is named of a tree

-- what a source of a COPY names of the tree that it is looked for in: the path before the pattern's first sign; a file of the COPY's own names nothing
abbrev pub source_paths : FileSource → List Path
source_paths (Pattern text) = carried_names (plain_names (components_of text)) ∷ []
source_paths (Data name content) = []

-- what sources of a COPY name, one after another
abbrev pub sources_paths : List FileSource → List Path
sources_paths [] = []
sources_paths (source ∷ sources) = source_paths source ++ sources_paths sources

-- all of a tree
abbrev pub whole : List Path
whole = [] ∷ []

-- what a bind mount names: its source; where there is no such mount, all
abbrev pub bind_paths : Option Bind → List Path
bind_paths None = whole
bind_paths (Some bind) = carried_names bind.source ∷ []

-- what a command names of its input of this number: of the tree that it runs in all
abbrev pub mount_paths : List Bind → ℕ → List Path
mount_paths binds zero = whole
mount_paths binds (suc number) = bind_paths (slice_get binds number)

-- what an operation names of its input of this number: a COPY looks for its sources in the second one, and whatever doesn't name paths names all
abbrev pub input_paths : Op → ℕ → List Path
input_paths (SourceOp source) number = whole
input_paths (ExecOp exec) number = mount_paths exec.binds number
input_paths (CopyOp files) number = if number == 1 then sources_paths files.sources else whole
input_paths (MakeDirsOp path) number = whole
input_paths MergeOp number = whole

-- ---- what is named of the files of a build

-- a source is the files that a build is given
abbrev pub is_context_source : Source → Bool
is_context_source Scratch = false
is_context_source Context = true
is_context_source (Image name) = false

-- an operation is the files that a build is given
abbrev pub is_context_op : Op → Bool
is_context_op (SourceOp source) = is_context_source source
is_context_op (ExecOp exec) = false
is_context_op (CopyOp files) = false
is_context_op (MakeDirsOp path) = false
is_context_op MergeOp = false

-- a vertex is, if there is one
abbrev pub is_context_vertex : Option Vertex → Bool
is_context_vertex None = false
is_context_vertex (Some vertex) = is_context_op vertex.op

-- the vertex of a number is the files that a build is given
abbrev pub is_context : List Vertex → ℕ → Bool
is_context vertices id = is_context_vertex (slice_get vertices id)

-- what an operation names of them by inputs that are vertices of these numbers; `number` is that of the first input
abbrev pub inputs_paths : List Vertex → Op → ℕ → List ℕ → List Path
inputs_paths vertices op number [] = []
inputs_paths vertices op number (id ∷ ids) =
    (if is_context vertices id then input_paths op number else []) ++ inputs_paths vertices op (number + 1) ids

-- what operations of a graph with these vertices name of them, in the order of the operations
abbrev pub named_paths : List Vertex → List Vertex → List Path
named_paths vertices [] = []
named_paths vertices (vertex ∷ more) = inputs_paths vertices vertex.op 0 vertex.inputs ++ named_paths vertices more

-- what is named of them as a result: all
abbrev pub result_paths : List Vertex → ℕ → List Path
result_paths vertices wanted = if is_context vertices wanted then whole else []

-- what a graph with its result names of them
abbrev pub paths_of : GraphValue → ℕ → List Path
paths_of graph wanted = result_paths graph.vertices wanted ++ named_paths graph.vertices graph.vertices

-- ---- what is told

-- the list of the patterns of some paths, if none of them is the root
abbrev pub told_list : List Path → Option (List ℕ)
told_list paths = if list_any is_root paths then None else exclude_list paths

-- what BuildKit is told of the files of a build of a graph with its result
abbrev pub follow_list : GraphValue → ℕ → Option (List ℕ)
follow_list graph wanted = told_list (paths_of graph wanted)
