-- The trees that are there before a build: the empty one, the context, and those of images (the source operations of
-- BuildKit's LLB).
use Rattle.std.specs.Prelude.{◌≡◌, ℕ, Option, Some, List, IsTrue, is_some, slice_get, refl}
use Rattle.std.specs.Coded.{Coded, code_by, coded×, coded_list, coded_ℕ}
use Rattle.std.specs.FinMap.{FinMap, get, code}
use Rattle.trees.specs.TreeMap.{TreeMap, empty_tree}
pub use Rattle.paths.specs.Order.{name_cmp}
use Rattle.trees.specs.contracts.tree.Tree as tree
use Rattle.llb.specs.declared.op.Source.{Source}
use Rattle.llb.specs.declared.op.Source.TheVariants.{Scratch, Context, Image}
use Rattle.llb.specs.declared.op.Op.{Op}
use Rattle.llb.specs.declared.op.Op.TheVariants.{Source as SourceOp, Exec as ExecOp, Copy as CopyOp, MakeDirs as MakeDirsOp, Merge as MergeOp}
use Rattle.llb.specs.declared.vertex.Vertex.{Vertex}

-- the context's tree, and the trees of the images by their names
pub record SourcesValue : Type 0 where
  pub context : TreeMap
  pub images : FinMap name_cmp TreeMap

-- sources in plain data, for generic code (own)
abbrev pub sources_code : Coded SourcesValue
sources_code = code_by (TreeMap × FinMap name_cmp TreeMap) (coded× tree.the_row.coded (code (coded_list coded_ℕ) tree.the_row.coded)) (λ s. (s.context, s.images)) (λ t. record { context = t.0; images = t.1 }) (λ _. refl)

-- the tree of a source; none where there is no image of the name
abbrev pub source_tree : SourcesValue → Source → Option TreeMap
source_tree sources Scratch = Some empty_tree
source_tree sources Context = Some sources.context
source_tree sources (Image name) = get sources.images name

-- the operation is no source, or one that has its tree
abbrev pub HasSource : SourcesValue → Op → Type 0
HasSource sources (SourceOp source) = IsTrue (is_some (source_tree sources source))
HasSource sources (ExecOp exec) = Unit {0}
HasSource sources (CopyOp files) = Unit {0}
HasSource sources (MakeDirsOp path) = Unit {0}
HasSource sources MergeOp = Unit {0}

-- each source among the vertices has its tree
abbrev pub HasSources : SourcesValue → List Vertex → Type 0
HasSources sources vertices = (k : ℕ) (vertex : Vertex) → slice_get vertices k ≡ Some vertex → HasSource sources vertex.op
