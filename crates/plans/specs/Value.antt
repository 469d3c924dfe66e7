-- The values of the vertices of a graph (BuildKit's LLB): the tree of each, or the cause of its failure. An executor is known by
-- its answers alone, so that all that is said here holds for every executor.
use Rattle.std.specs.Prelude.{ℕ, Option, Some, None, Result, Ok, Err, List, [], ◌∷◌, ◌++◌, slice_index_or}
use Rattle.std.specs.Option.{option_map, option_and_then}
use Rattle.trees.specs.TreeMap.{TreeMap, empty_tree}
use Rattle.trees.specs.Cause.{TreeOrCause}
use Rattle.trees.specs.Copy.{copied}
use Rattle.trees.specs.Make.{made}
use Rattle.trees.specs.Over.{merged}
use Rattle.trees.specs.declared.cause.Cause.{Cause}
use Rattle.trees.specs.declared.cause.Cause.TheVariants.{Exit}
use Rattle.runs.specs.declared.run.RunRequest.{RunRequest}
use Rattle.runs.specs.declared.run.RunOutcome.{RunOutcome}
use Rattle.runs.specs.declared.run.RunOutcome.TheVariants.{Done, Exit as Exited}
use Rattle.llb.specs.declared.op.CopyFiles.{CopyFiles}
use Rattle.llb.specs.declared.op.Exec.{Exec}
use Rattle.llb.specs.declared.op.Op.{Op}
use Rattle.llb.specs.declared.op.Op.TheVariants.{Source as SourceOp, Exec as ExecOp, Copy as CopyOp, MakeDirs as MakeDirsOp, Merge as MergeOp}
use Rattle.llb.specs.declared.vertex.Vertex.{Vertex}
use Rattle.plans.specs.Files.{sources_in}
use Rattle.plans.specs.Request.{request_of}
use Rattle.plans.specs.Sources.{SourcesValue, source_tree}

-- what an executor answers to each request
abbrev pub Out : Type 0
Out = RunRequest → RunOutcome

-- the value of a vertex: its tree, or the cause of its failure; nothing where an input has no tree, or where it is a source that
-- isn't there
abbrev pub Value : Type 0
Value = Option TreeOrCause

-- ---- what an operation gives

-- what a run's end means for its instruction
abbrev pub ended : RunOutcome → TreeOrCause
ended (Done tree) = Ok tree
ended (Exited status) = Err (Exit status)

-- a command is run where it has a request
abbrev pub run_of : Out → Result RunRequest Cause → TreeOrCause
run_of out (Err cause) = Err cause
run_of out (Ok request) = ended (out request)

-- what a command gives on the tree that it runs in, and the trees of its binds (Dockerfile reference, RUN)
abbrev pub run_value : Out → Exec → List TreeMap → Value
run_value out exec [] = None
run_value out exec (root ∷ trees) = Some (run_of out (request_of exec root trees))

-- what a copy gives, from one tree into another (Dockerfile reference, COPY)
abbrev pub copied_files : CopyFiles → TreeMap → TreeMap → TreeOrCause
copied_files files base from = copied base from (sources_in from files.sources) files.dest files.options

-- the same on the tree that it copies into, and the one that it copies from, if it looks for a source in one
abbrev pub copy_value : CopyFiles → List TreeMap → Value
copy_value files [] = None
copy_value files (base ∷ []) = Some (copied_files files base empty_tree)
copy_value files (base ∷ (from ∷ [])) = Some (copied_files files base from)
copy_value files (base ∷ (from ∷ (more ∷ trees))) = None

-- what making a directory gives on one tree (Dockerfile reference, WORKDIR)
abbrev pub dirs_value : List (List ℕ) → List TreeMap → Value
dirs_value path [] = None
dirs_value path (tree ∷ []) = Some (made tree path)
dirs_value path (tree ∷ (more ∷ trees)) = None

-- what an operation on files gives; nothing where it is another one
abbrev pub file_value : Op → List TreeMap → Value
file_value (SourceOp source) trees = None
file_value (ExecOp exec) trees = None
file_value (CopyOp files) trees = copy_value files trees
file_value (MakeDirsOp path) trees = dirs_value path trees
file_value MergeOp trees = None

-- what an operation gives on the trees of its inputs: a source its tree, if there is one. A vertex of a graph has as many inputs as its
-- operation asks for; on another number of trees a copy and a directory give nothing, and a command leaves out the binds or the
-- trees that are too many
abbrev pub result_of : Out → SourcesValue → Op → List TreeMap → Value
result_of out sources (SourceOp source) trees = option_map Ok (source_tree sources source)
result_of out sources (ExecOp exec) trees = run_value out exec trees
result_of out sources (CopyOp files) trees = copy_value files trees
result_of out sources (MakeDirsOp path) trees = dirs_value path trees
result_of out sources MergeOp trees = Some (Ok (merged trees))

-- ---- the values of a graph's vertices

-- the tree of a vertex, if it has one
abbrev pub tree_of : Value → Option TreeMap
tree_of None = None
tree_of (Some (Err cause)) = None
tree_of (Some (Ok tree)) = Some tree

-- a tree before others, where all are there
abbrev pub with_tree : Option TreeMap → Option (List TreeMap) → Option (List TreeMap)
with_tree None trees = None
with_tree (Some tree) None = None
with_tree (Some tree) (Some trees) = Some (tree ∷ trees)

-- the trees of some vertices, where each of them has one
abbrev pub trees_at : List Value → List ℕ → Option (List TreeMap)
trees_at values [] = Some []
trees_at values (input ∷ inputs) = with_tree (tree_of (slice_index_or values input None)) (trees_at values inputs)

-- the value of a vertex where those before it have these values
abbrev pub value_in : Out → SourcesValue → List Value → Vertex → Value
value_in out sources values vertex = option_and_then (result_of out sources vertex.op) (trees_at values vertex.inputs)

-- the values of vertices one after another, after others that have these
abbrev pub values_from : Out → SourcesValue → List Value → List Vertex → List Value
values_from out sources values [] = values
values_from out sources values (vertex ∷ vertices) =
    values_from out sources (values ++ value_in out sources values vertex ∷ []) vertices

-- the values of the vertices of a graph, by their ids
abbrev pub values_of : Out → SourcesValue → List Vertex → List Value
values_of out sources vertices = values_from out sources [] vertices

-- the value of one vertex
abbrev pub value_of : Out → SourcesValue → List Vertex → ℕ → Value
value_of out sources vertices id = slice_index_or (values_of out sources vertices) id None

-- ---- the same by ids

-- what there is beside a graph: an executor's answers, and the trees of the sources
pub record World : Type 0 where
  pub out : Out
  pub sources : SourcesValue

-- some trees, where all are there
abbrev pub all_trees : List (Option TreeMap) → Option (List TreeMap)
all_trees [] = Some []
all_trees (tree ∷ trees) = with_tree tree (all_trees trees)
