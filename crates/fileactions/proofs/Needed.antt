-- What a graph names of the files of a build decides what it gives: files that are alike there give the same.
use Rattle.std.specs.Prelude.{◌≡◌, ◌<◌, ◌≤◌, ◌+◌, ℕ, zero, suc, Bool, true, false, Option, Some, None, Ok, List, [], ◌∷◌, ◌↔◌, ◌⊎◌, length, slice_get, IsTrue}
use Rattle.std.proofs.Common.{sym, ap, refl, ◌∙◌, subst, true≢false, arith, inl, inr}
use Rattle.std.proofs.lemmas.Bool.{cases_lt, eqb-true}
use Rattle.std.proofs.lemmas.List.{get_or_past}
use Rattle.std.proofs.lemmas.List.Elements.{recursion_from_All}
use Rattle.std.specs.List.{AllByRecursion}
use Rattle.std.specs.Option.{option_map, option_and_then}
use Rattle.std.specs.FinMap.{get}
use Rattle.paths.proofs.FrontLaws.{both_first}
use Rattle.globs.specs.Glob.{relates, Relates}
use Rattle.trees.specs.TreeMap.{TreeMap}
use Rattle.trees.proofs.TreeLaws.{same_tree}
use Rattle.llb.specs.declared.op.Source.TheVariants.{Scratch, Context, Image}
use Rattle.llb.specs.declared.op.Op.{Op}
use Rattle.llb.specs.declared.op.Op.TheVariants.{Source as SourceOp, Exec as ExecOp, Copy as CopyOp, MakeDirs as MakeDirsOp, Merge as MergeOp}
use Rattle.llb.specs.declared.vertex.Vertex.{Vertex}
use Rattle.llb.specs.Graph.{GraphValue, AreVertices}
use Rattle.llb.specs.WellFormed.{is_well_formed_on}
use Rattle.plans.specs.Sources.{SourcesValue}
use Rattle.plans.specs.Value.{Out, Value, result_of, tree_of, with_tree, trees_at, values_of, value_of}
use Rattle.plans.proofs.ValueLaws.{value_of-is, length-values_from}
use Rattle.exported.specs.Following.{is_context_op, is_context_vertex, is_context, paths_of}
use Rattle.fileactions.proofs.Steps.{Path}
use Rattle.fileactions.proofs.Followed.{Covers, read-covers, result-covers}
use Rattle.fileactions.proofs.Plans.{there}
use Rattle.fileactions.proofs.Alike.{Alike, AllAlike, result-same}

-- the value of a tree
abbrev tree-value : TreeMap → Value
tree-value tree = Some (Ok tree)

-- ---- trees that may not be there

-- neither is there, or both are and are alike at all that an operation may look at
abbrev IsAlike : Op → ℕ → Option TreeMap → Option TreeMap → Type 0
IsAlike op number None None = Unit {0}
IsAlike op number None (Some other) = ⊥
IsAlike op number (Some one) None = ⊥
IsAlike op number (Some one) (Some other) = Alike op number one other

abbrev AreAlike : Op → ℕ → Option (List TreeMap) → Option (List TreeMap) → Type 0
AreAlike op number None None = Unit {0}
AreAlike op number None (Some others) = ⊥
AreAlike op number (Some ones) None = ⊥
AreAlike op number (Some ones) (Some others) = AllAlike op number ones others

alike-itself : (op : Op) (number : ℕ) (o : Option TreeMap) → IsAlike op number o o
alike-itself op number None = tt
alike-itself op number (Some tree) = λ path reads. refl

alike-more : (op : Op) (number : ℕ) (o o' : Option TreeMap) (rest rest' : Option (List TreeMap)) → IsAlike op number o o' → AreAlike op (number + 1) rest rest' → AreAlike op number (with_tree o rest) (with_tree o' rest')
alike-more op number None None rest rest' first more = tt
alike-more op number None (Some other) rest rest' first more = absurd first
alike-more op number (Some one) None rest rest' first more = absurd first
alike-more op number (Some one) (Some other) None None first more = tt
alike-more op number (Some one) (Some other) None (Some others) first more = absurd more
alike-more op number (Some one) (Some other) (Some ones) None first more = absurd more
alike-more op number (Some one) (Some other) (Some ones) (Some others) first more = (first, more)

-- ---- the files of a build

context-source : (op : Op) → is_context_op op ≡ true → op ≡ SourceOp Context
context-source (SourceOp Scratch) is = absurd (true≢false (sym is))
context-source (SourceOp Context) is = refl
context-source (SourceOp (Image name)) is = absurd (true≢false (sym is))
context-source (ExecOp exec) is = absurd (true≢false (sym is))
context-source (CopyOp files) is = absurd (true≢false (sym is))
context-source (MakeDirsOp dir) is = absurd (true≢false (sym is))
context-source MergeOp is = absurd (true≢false (sym is))

context-vertex : (o : Option Vertex) → is_context_vertex o ≡ true → (vertex : Vertex) × ((o ≡ Some vertex) × (vertex.op ≡ SourceOp Context))
context-vertex None is = absurd (true≢false (sym is))
context-vertex (Some vertex) is = (vertex, (refl, context-source vertex.op is))

-- a source has no inputs
no-inputs : (inputs : List ℕ) → IsTrue (is_well_formed_on (SourceOp Context) (length inputs)) → inputs ≡ []
no-inputs [] formed = refl
no-inputs (input ∷ inputs) formed = let none : suc (length inputs) ≡ 0 = eqb-true (suc (length inputs)) 0 (both_first _ true formed) in absurd (omega (arith, none))

module _ (vertices : List Vertex) (are : AreVertices vertices) (out : Out) where
  context-value : (sources : SourcesValue) (id : ℕ) → is_context vertices id ≡ true → value_of out sources vertices id ≡ tree-value sources.context
  context-value sources id is =
      let found = context-vertex (slice_get vertices id) is in
      let vertex : Vertex = found.0 in
      let formed : IsTrue (is_well_formed_on (SourceOp Context) (length vertex.inputs)) = subst (λ (op : Op). IsTrue (is_well_formed_on op (length vertex.inputs))) found.1.1 (are.well_formed id vertex found.1.0) in
      value_of-is out sources vertices id vertex are found.1.0
      ∙ (λ i. option_and_then (result_of out sources (found.1.1 i)) (trees_at (values_of out sources vertices) (no-inputs vertex.inputs formed i)))

  -- beyond its vertices a graph has no values
  no-value : (sources : SourcesValue) (k : ℕ) → length vertices ≤ k → value_of out sources vertices k ≡ None
  no-value sources k past = get_or_past (values_of out sources vertices) k None (omega (arith, length-values_from out sources [] vertices, past))

module _ (lawful : (text : List ℕ) (path : Path) → (relates text path ≡ true) ↔ Relates text path) (graph : GraphValue) (wanted : ℕ) (out : Out) (ones others : SourcesValue) (are : AreVertices graph.vertices)
    (images : ones.images ≡ others.images) (same : (path : Path) → Covers (paths_of graph wanted) path → get ones.context path ≡ get others.context path) where
  abbrev one : ℕ → Value
  one id = value_of out ones graph.vertices id

  abbrev other : ℕ → Value
  other id = value_of out others graph.vertices id

  -- an input is alike: the files of the build where the operation may look at them, and what else there is all the same
  input-alike : (k number id : ℕ) (vertex : Vertex) → slice_get graph.vertices k ≡ Some vertex → slice_get vertex.inputs number ≡ Some id → (is_context graph.vertices id ≡ false → one id ≡ other id)
      → IsAlike vertex.op number (tree_of (one id)) (tree_of (other id))
  input-alike k number id vertex at input below = by (is_context graph.vertices id) refl
    where
      by : (b : Bool) → is_context graph.vertices id ≡ b → IsAlike vertex.op number (tree_of (one id)) (tree_of (other id))
      by true is =
          let first : tree_of (one id) ≡ Some ones.context = ap tree_of (context-value graph.vertices are out ones id is) in
          let second : tree_of (other id) ≡ Some others.context = ap tree_of (context-value graph.vertices are out others id is) in
          let alike : Alike vertex.op number ones.context others.context = λ path reads. same path (read-covers lawful graph wanted k number id vertex path at input is reads) in
          subst (λ (o : Option TreeMap). IsAlike vertex.op number o (tree_of (other id))) (sym first)
          (subst (λ (o : Option TreeMap). IsAlike vertex.op number (Some ones.context) o) (sym second) alike)
      by false is = subst (λ (v : Value). IsAlike vertex.op number (tree_of (one id)) (tree_of v)) (below is) (alike-itself vertex.op number (tree_of (one id)))

  inputs-alike : (k start : ℕ) (vertex : Vertex) (ids : List ℕ) → slice_get graph.vertices k ≡ Some vertex → ((n : ℕ) → slice_get ids n ≡ slice_get vertex.inputs (start + n))
      → AllByRecursion (λ id. id < k) ids → ((id : ℕ) → id < k → is_context graph.vertices id ≡ false → one id ≡ other id)
      → AreAlike vertex.op start (trees_at (values_of out ones graph.vertices) ids) (trees_at (values_of out others graph.vertices) ids)
  inputs-alike k start vertex [] at from below before = tt
  inputs-alike k start vertex (id ∷ ids) at from below before =
      let input : slice_get vertex.inputs start ≡ Some id = ap (slice_get vertex.inputs) (omega arith) ∙ sym (from 0) in
      alike-more vertex.op start (tree_of (one id)) (tree_of (other id)) (trees_at (values_of out ones graph.vertices) ids) (trees_at (values_of out others graph.vertices) ids)
      (input-alike k start id vertex at input (before id below.0)) (inputs-alike k (start + 1) vertex ids at (λ n. from (suc n) ∙ ap (slice_get vertex.inputs) (omega arith)) below.1 before)

  -- an operation that isn't the files of the build gives the same
  sources-same : (op : Op) (trees : List TreeMap) → is_context_op op ≡ false → result_of out ones op trees ≡ result_of out others op trees
  sources-same (SourceOp Scratch) trees is = refl
  sources-same (SourceOp Context) trees is = absurd (true≢false is)
  sources-same (SourceOp (Image name)) trees is = ap (λ m. option_map Ok (get m name)) images
  sources-same (ExecOp exec) trees is = refl
  sources-same (CopyOp files) trees is = refl
  sources-same (MakeDirsOp dir) trees is = refl
  sources-same MergeOp trees is = refl

  given-same : (op : Op) (o o' : Option (List TreeMap)) → is_context_op op ≡ false → AreAlike op 0 o o' → option_and_then (result_of out ones op) o ≡ option_and_then (result_of out others op) o'
  given-same op None None is alike = refl
  given-same op None (Some trees') is alike = absurd alike
  given-same op (Some trees) None is alike = absurd alike
  given-same op (Some trees) (Some trees') is alike = result-same out ones op trees trees' alike ∙ sources-same op trees' is

  up-to : (n k : ℕ) → k < n → is_context graph.vertices k ≡ false → one k ≡ other k
  up-to zero k less is = absurd (omega arith)
  up-to (suc n) k less is = by (cases_lt k (length graph.vertices)) (λ id small. up-to n id (omega (arith, small, less)))
    where
      by : (k < length graph.vertices) ⊎ (length graph.vertices ≤ k) → ((id : ℕ) → id < k → is_context graph.vertices id ≡ false → one id ≡ other id) → one k ≡ other k
      by (inl inside) before =
          let v = there graph.vertices k inside in
          let vertex : Vertex = v.0 in
          let below : AllByRecursion (λ id. id < k) vertex.inputs = recursion_from_All (λ id. id < k) vertex.inputs (are.after k vertex v.1) in
          let no-context : is_context_op vertex.op ≡ false = ap is_context_vertex (sym v.1) ∙ is in
          let alike = inputs-alike k 0 vertex vertex.inputs v.1 (λ m. ap (slice_get vertex.inputs) (omega arith)) below before in
          value_of-is out ones graph.vertices k vertex are v.1
          ∙ given-same vertex.op (trees_at (values_of out ones graph.vertices) vertex.inputs) (trees_at (values_of out others graph.vertices) vertex.inputs) no-context alike
          ∙ sym (value_of-is out others graph.vertices k vertex are v.1)
      by (inr past) before = no-value graph.vertices are out ones k past ∙ sym (no-value graph.vertices are out others k past)

  -- each vertex but the files of the build has the same value
  pub value-same : (k : ℕ) → is_context graph.vertices k ≡ false → one k ≡ other k
  value-same k is = up-to (suc k) k (omega arith) is

  -- and so has the result
  pub wanted-same : one wanted ≡ other wanted
  wanted-same = by (is_context graph.vertices wanted) refl
    where
      by : (b : Bool) → is_context graph.vertices wanted ≡ b → one wanted ≡ other wanted
      by true is =
          context-value graph.vertices are out ones wanted is
          ∙ ap tree-value (same_tree ones.context others.context (λ path. same path (result-covers graph wanted path is)))
          ∙ sym (context-value graph.vertices are out others wanted is)
      by false is = value-same wanted is
