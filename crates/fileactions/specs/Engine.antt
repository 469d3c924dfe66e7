-- What an engine makes of a plan: a tree for each operation of its definition, by the operation's digest. Operations on files do what the model has; of
-- the others it is asked that they give what the plan has.
use Rattle.std.specs.Prelude.{◌≡◌, ℕ, Option, Some, None, Ok, List, [], ◌∷◌, map, slice_get, slice_index_or}
use Rattle.std.specs.List.{AllByRecursion}
use Rattle.paths.specs.Path.{IsClean}
use Rattle.trees.specs.TreeMap.{TreeMap, IsTree}
use Rattle.runs.specs.declared.run.RunRequest.{RunRequest}
use Rattle.runs.specs.declared.run.RunOutcome.TheVariants.{Done}
use Rattle.llb.specs.declared.op.Source.{Source}
use Rattle.llb.specs.declared.op.Op.{Op}
use Rattle.llb.specs.declared.op.Op.TheVariants.{Source as SourceOp, Exec as ExecOp, Copy as CopyOp, MakeDirs as MakeDirsOp, Merge as MergeOp}
use Rattle.llb.specs.declared.vertex.Vertex.{Vertex}
use Rattle.plans.specs.Sources.{source_tree}
use Rattle.plans.specs.Value.{World, result_of}
use Rattle.llbmessages.specs.declared.file.FileAction.{FileAction}
use Rattle.llbmessages.specs.Op.{op_bytes}
use Rattle.exported.specs.declared.making.Made.{Made}
use Rattle.exported.specs.declared.making.Made.TheVariants.{Same, By}
use Rattle.exported.specs.Places.{digest_of, inputs_of}
use Rattle.exported.specs.Files.{make_dir_actions, copied}
use Rattle.fileactions.specs.Copies.{Finder}
use Rattle.fileactions.specs.Actions.{operation_by}
use Rattle.fileactions.specs.Claims.{place_tree, FindsAlike, HasName, IsSettable}

-- ---- where trees are

-- the place of what a vertex is in a definition: that of another vertex, or an operation's, by the digest of its bytes
abbrev pub place_of : Made → Option (List ℕ)
place_of (Same place) = place
place_of (By op) = Some (digest_of (op_bytes op))

-- the places of a vertex's inputs, by those of vertices
abbrev pub input_places : List (Option (List ℕ)) → Vertex → List (Option (List ℕ))
input_places places vertex = map (λ id. slice_index_or places id None) vertex.inputs

-- ---- what an engine makes

-- the engine's trees at some places
abbrev pub trees_of : (List ℕ → TreeMap) → List (Option (List ℕ)) → List TreeMap
trees_of trees places = map (place_tree trees) places

-- at the place of an operation on files is the tree that the model has, if it has one
abbrev pub IsDone : Finder → (List ℕ → TreeMap) → List (Option (List ℕ)) → List FileAction → Option (List ℕ) → Type 0
IsDone finder trees places actions place =
    (tree : TreeMap) → operation_by finder (map trees (inputs_of places)) actions ≡ Some tree → place_tree trees place ≡ tree

-- At the place of another operation is the tree that the plan has on the engine's trees, if it has one. BuildKit gives the root of a merge 0755 and 0:0,
-- so this holds of a merge whose root has these, as that of a linked COPY has
abbrev pub IsAsPlanned : World → (List ℕ → TreeMap) → List (Option (List ℕ)) → Op → Option (List ℕ) → Type 0
IsAsPlanned world trees places op place =
    (tree : TreeMap) → result_of world.out world.sources op (trees_of trees places) ≡ Some (Ok tree) → place_tree trees place ≡ tree

-- what is at the place of an operation on the trees of these places. Making the root is no operation: its place is that of its input
abbrev pub IsMade : Finder → World → (List ℕ → TreeMap) → List (Option (List ℕ)) → Op → Option (List ℕ) → Type 0
IsMade finder world trees places (SourceOp source) place = IsAsPlanned world trees places (SourceOp source) place
IsMade finder world trees places (ExecOp exec) place = IsAsPlanned world trees places (ExecOp exec) place
IsMade finder world trees places (CopyOp files) place = IsDone finder trees places (copied files places) place
IsMade finder world trees places (MakeDirsOp []) place = Unit {0}
IsMade finder world trees places (MakeDirsOp (name ∷ names)) place = IsDone finder trees places (make_dir_actions places (name ∷ names)) place
IsMade finder world trees places MergeOp place = IsAsPlanned world trees places MergeOp place

-- what is at the places of vertices
abbrev pub AreMade : Finder → World → (List ℕ → TreeMap) → List Vertex → List (Option (List ℕ)) → Type 0
AreMade finder world trees vertices places = (k : ℕ) (vertex : Vertex) → slice_get vertices k ≡ Some vertex
    → IsMade finder world trees (input_places places vertex) vertex.op (slice_index_or places k None)

-- ---- what is asked beside it

-- the engine finds what the patterns of a copy relate to
abbrev pub FindsSources : Finder → TreeMap → Op → Type 0
FindsSources finder from (SourceOp source) = Unit {0}
FindsSources finder from (ExecOp exec) = Unit {0}
FindsSources finder from (CopyOp files) = AllByRecursion (λ source. FindsAlike finder from source) files.sources
FindsSources finder from (MakeDirsOp path) = Unit {0}
FindsSources finder from MergeOp = Unit {0}

abbrev pub FindsAll : Finder → (List ℕ → TreeMap) → List Vertex → List (Option (List ℕ)) → Type 0
FindsAll finder trees vertices places = (k : ℕ) (vertex : Vertex) → slice_get vertices k ≡ Some vertex
    → FindsSources finder (place_tree trees (slice_index_or (input_places places vertex) 1 None)) vertex.op

-- an operation's paths are clean, its names are components and its modes are some, which the types of the code keep; and its owners can be set
abbrev pub IsNamedOp : Op → Type 0
IsNamedOp (SourceOp source) = Unit {0}
IsNamedOp (ExecOp exec) = Unit {0}
IsNamedOp (CopyOp files) = IsClean files.dest × (AllByRecursion HasName files.sources × IsSettable files.options)
IsNamedOp (MakeDirsOp path) = IsClean path
IsNamedOp MergeOp = Unit {0}

abbrev pub AreNamedOps : List Vertex → Type 0
AreNamedOps vertices = (k : ℕ) (vertex : Vertex) → slice_get vertices k ≡ Some vertex → IsNamedOp vertex.op

-- what there is beside a graph gives trees
pub record GivesTrees (world : World) : Type 0 where
  pub runs : (request : RunRequest) (tree : TreeMap) → world.out request ≡ Done tree → IsTree tree
  pub sources : (source : Source) (tree : TreeMap) → source_tree world.sources source ≡ Some tree → IsTree tree
