-- How many vertices the graph of a file has at most.
use Rattle.std.specs.Prelude.{◌<◌, ◌≤◌, ◌+◌, ◌*◌, ℕ, List, [], ◌∷◌, ◌++◌}
use Rattle.std.specs.FinMap.{len}
use Rattle.llb.specs.declared.op.Source.{Source}
use Rattle.llb.specs.declared.op.Source.TheVariants.{Scratch, Context, Image}
use Rattle.llb.specs.declared.op.Op.{Op}
use Rattle.llb.specs.declared.op.Op.TheVariants.{Source as SourceOp, Exec as ExecOp, Copy as CopyOp, MakeDirs as MakeDirsOp, Merge as MergeOp}
use Rattle.llb.specs.declared.vertex.Vertex.{Vertex}
use Rattle.llb.specs.Graph.{GraphValue}
use Rattle.llb.specs.WellFormed.{scratch_name}
use Rattle.plans.specs.Sources.{SourcesValue, HasSources}
use Rattle.plain.specs.Limits.{most_images, most_lines}

-- a text that tells a source from others: no image has the empty name or that of scratch
abbrev pub source_key : Source → List ℕ
source_key Scratch = []
source_key Context = scratch_name
source_key (Image name) = name

-- the keys of an operation: one for a source
abbrev pub op_keys : Op → List (List ℕ)
op_keys (SourceOp source) = source_key source ∷ []
op_keys (ExecOp exec) = []
op_keys (CopyOp files) = []
op_keys (MakeDirsOp path) = []
op_keys MergeOp = []

-- the keys of the sources among vertices
abbrev pub keys : List Vertex → List (List ℕ)
keys [] = []
keys (v ∷ vs) = op_keys v.op ++ keys vs

-- one for an operation that is no source
abbrev pub op_others : Op → ℕ
op_others (SourceOp source) = 0
op_others (ExecOp exec) = 1
op_others (CopyOp files) = 1
op_others (MakeDirsOp path) = 1
op_others MergeOp = 1

-- how many of some vertices are no sources
abbrev pub others : List Vertex → ℕ
others [] = 0
others (v ∷ vs) = op_others v.op + others vs

-- each source of the graph has its tree, there are few images, and the graph has room for so many vertices more that are no sources
pub record HasRoom (sources : SourcesValue) (graph : GraphValue) (left : ℕ) : Type 0 where
  pub few : len sources.images ≤ most_images
  pub known : HasSources sources graph.vertices
  pub others : others graph.vertices + left < 2 * most_lines

-- there are sources that have all that is named, beside which the graph has that room
pub record RoomFor (names : SourcesValue → Type 0) (graph : GraphValue) (left : ℕ) : Type 0 where
  pub sources : SourcesValue
  pub has : names sources
  pub room : HasRoom sources graph left

-- of a graph's room a call uses no more than this many vertices, where the sources have all that it names
abbrev pub Uses : GraphValue → GraphValue → (SourcesValue → Type 0) → ℕ → Type 0
Uses old new names cost = (s : SourcesValue) (left : ℕ) → names s → HasRoom s old (left + cost) → HasRoom s new left
