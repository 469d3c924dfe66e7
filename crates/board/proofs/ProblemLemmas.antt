-- A plan's problem can be solved; and in such a problem an operation has a result on the trees of its vertex's inputs.
use Rattle.std.proofs.Common.{◌≡◌, ◌∙◌, ◌⊎◌, inl, inr, ℕ, suc, ◌<◌, ◌+◌, ◌==◌, Bool, true, false, cond, List, [], ◌∷◌, length, Option, Some, None, is_some, Ok, Err, refl, sym, ap, subst, arith}
use Rattle.std.specs.Prelude.{IsTrue, slice_get}
use Rattle.std.specs.List.{All, list_any, slice_index_or}
use Rattle.std.specs.Option.{option_map, option_and_then}
use Rattle.std.proofs.lemmas.Bool.{and_parts, eqb-true}
use Rattle.std.proofs.lemmas.List.Elements.{All-cons}
use Rattle.trees.specs.TreeMap.{TreeMap}
use Rattle.trees.specs.Cause.{TreeOrCause}
use Rattle.llb.specs.declared.op.CopyFiles.{CopyFiles}
use Rattle.llb.specs.declared.op.Op.{Op}
use Rattle.llb.specs.declared.op.Op.TheVariants.{Source as SourceOp, Exec as ExecOp, Copy as CopyOp, MakeDirs as MakeDirsOp, Merge as MergeOp}
use Rattle.llb.specs.declared.vertex.Vertex.{Vertex}
use Rattle.llb.specs.WellFormed.{is_well_formed_on, is_well_formed_exec, is_well_formed_copy, inputs_of_copy, is_pattern}
use Rattle.plans.specs.Plan.{PlanValue, IsPlan, Problem, problem_of, vertex_value}
use Rattle.plans.specs.Sources.{SourcesValue, source_tree, HasSource}
use Rattle.plans.specs.Value.{Out, Value, trees_at, with_tree, tree_of, copy_value, result_of}
use Rattle.plans.proofs.ValueLaws.{value_of-is, value_within}
use Rattle.board.specs.Legal.{HasTree}
use Rattle.board.specs.Problem.{IsProblem, values_in}

pub plan-problem : {C : Type 0} (out : Out) (plan : PlanValue C) → IsPlan plan → IsProblem (problem_of out plan)
plan-problem out plan is = record { vertices = is.graph.vertices; target = is.target; sources = is.sources }

-- the trees of inputs, all of which have one
all_trees : (problem : Problem) (inputs : List ℕ) → All (λ input. HasTree problem input) inputs → (trees : List TreeMap) × (trees_at (values_in problem) inputs ≡ Some trees)
unfolding vertex_value
all_trees problem [] all = ([], refl)
all_trees problem (input ∷ inputs) all =
    let here : HasTree problem input = all 0 input (omega arith) in
    let value : slice_index_or (values_in problem) input None ≡ Some (Ok here.0) = here.1 in
    let rest = all_trees problem inputs (λ k d l. all (suc k) d (omega (arith, l))) in
    (here.0 ∷ rest.0, rw (value, rest.1) refl)

length_with : (first : Option TreeMap) (rest : Option (List TreeMap)) (trees : List TreeMap) (n : ℕ) → ((others : List TreeMap) → rest ≡ Some others → length others ≡ n) → with_tree first rest ≡ Some trees → length trees ≡ suc n
length_with None rest trees n known e = cc
length_with (Some first) None trees n known e = cc
length_with (Some first) (Some others) [] n known e = cc
length_with (Some first) (Some others) (tree ∷ trees) n known e =
    let same : others ≡ trees = cc in
    ap suc (ap length (sym same) ∙ known others refl)

-- there are as many trees as inputs
pub length-trees_at : (values : List Value) (inputs : List ℕ) (trees : List TreeMap) → trees_at values inputs ≡ Some trees → length trees ≡ length inputs
length-trees_at values [] trees e = (let same : [] ≡ trees = cc in ap length (sym same))
length-trees_at values (input ∷ inputs) trees e =
    length_with (tree_of (slice_index_or values input None)) (trees_at values inputs) trees (length inputs) (λ others f. length-trees_at values inputs others f) e

source-some : (o : Option TreeMap) → is_some o ≡ true → is_some (option_map {U = TreeOrCause} Ok o) ≡ true
source-some (Some tree) e = refl
source-some None e = cc

one_or_two : (b : Bool) (n : ℕ) → (n == cond b 2 1) ≡ true → (n ≡ 1) ⊎ (n ≡ 2)
one_or_two true n e = inr (eqb-true n 2 e)
one_or_two false n e = inl (eqb-true n 1 e)

copy-some : (files : CopyFiles) (trees : List TreeMap) → (length trees ≡ 1) ⊎ (length trees ≡ 2) → is_some (copy_value files trees) ≡ true
copy-some files [] (inl e) = absurd (omega (arith, e))
copy-some files [] (inr e) = absurd (omega (arith, e))
copy-some files (base ∷ []) e = refl
copy-some files (base ∷ (from ∷ [])) e = refl
copy-some files (base ∷ (from ∷ (more ∷ trees))) (inl e) = absurd (omega (arith, e))
copy-some files (base ∷ (from ∷ (more ∷ trees))) (inr e) = absurd (omega (arith, e))

-- an operation that is well formed on as many trees has a result on them
pub result-some : (out : Out) (sources : SourcesValue) (op : Op) (trees : List TreeMap) → IsTrue (is_well_formed_on op (length trees)) → HasSource sources op → is_some (result_of out sources op trees) ≡ true
result-some out sources (SourceOp source) trees e has = source-some (source_tree sources source) has
result-some out sources (ExecOp exec) [] e has =
    let count : 0 ≡ length exec.binds + 1 = eqb-true 0 (length exec.binds + 1) (and_parts (0 == length exec.binds + 1) (is_well_formed_exec exec) e).0 in
    absurd (omega (arith, count))
result-some out sources (ExecOp exec) (root ∷ trees) e has = refl
result-some out sources (CopyOp files) trees e has =
    copy-some files trees (one_or_two (list_any is_pattern files.sources) (length trees) (and_parts (length trees == inputs_of_copy files) (is_well_formed_copy files) e).0)
result-some out sources (MakeDirsOp path) [] e has = absurd (omega (arith, eqb-true 0 1 e))
result-some out sources (MakeDirsOp path) (tree ∷ []) e has = refl
result-some out sources (MakeDirsOp path) (tree ∷ (more ∷ trees)) e has = absurd (omega (arith, eqb-true (length (tree ∷ (more ∷ trees))) 1 e))
result-some out sources MergeOp trees e has = refl

-- the value of a vertex whose inputs have these trees
pub value-there : (problem : Problem) (vertex : ℕ) (v : Vertex) (trees : List TreeMap) → IsProblem problem → slice_get problem.vertices vertex ≡ Some v → trees_at (values_in problem) v.inputs ≡ Some trees → vertex_value problem vertex ≡ result_of problem.out problem.sources v.op trees
unfolding vertex_value
value-there problem vertex v trees is there e =
    value_of-is problem.out problem.sources problem.vertices vertex v is.vertices there ∙ ap (option_and_then (result_of problem.out problem.sources v.op)) e

-- the operation of a vertex is well formed on the trees of its inputs
pub formed-there : (problem : Problem) (vertex : ℕ) (v : Vertex) (trees : List TreeMap) → IsProblem problem → slice_get problem.vertices vertex ≡ Some v → trees_at (values_in problem) v.inputs ≡ Some trees → IsTrue (is_well_formed_on v.op (length trees))
formed-there problem vertex v trees is there e =
    subst (λ n. IsTrue (is_well_formed_on v.op n)) (sym (length-trees_at (values_in problem) v.inputs trees e)) (is.vertices.well_formed vertex v there)

-- a vertex whose inputs have trees has a value
pub valued-there : (problem : Problem) (vertex : ℕ) (v : Vertex) → IsProblem problem → slice_get problem.vertices vertex ≡ Some v → All (λ input. HasTree problem input) v.inputs → is_some (vertex_value problem vertex) ≡ true
valued-there problem vertex v is there all =
    let trees = all_trees problem v.inputs all in
    rw (value-there problem vertex v trees.0 is there trees.1) (result-some problem.out problem.sources v.op trees.0 (formed-there problem vertex v trees.0 is there trees.1) (is.sources vertex v there))

-- ---- what a value says of the inputs

some_of : (o : Option TreeOrCause) → is_some o ≡ true → (value : TreeOrCause) × (o ≡ Some value)
some_of None e = cc
some_of (Some value) e = (value, refl)

-- only a vertex of the problem has a value
pub value-within : (problem : Problem) (vertex : ℕ) → is_some (vertex_value problem vertex) ≡ true → vertex < length problem.vertices
unfolding vertex_value
value-within problem vertex e =
    let value = some_of (slice_index_or (values_in problem) vertex None) e in
    value_within problem.out problem.sources problem.vertices vertex value.0 value.1

trees_of : (o : Option (List TreeMap)) (f : List TreeMap → Value) → is_some (option_and_then f o) ≡ true → (trees : List TreeMap) × (o ≡ Some trees)
trees_of None f e = cc
trees_of (Some trees) f e = (trees, refl)

has_tree_of : (value : Value) (trees : Option (List TreeMap)) (all : List TreeMap) → with_tree (tree_of value) trees ≡ Some all → ((tree : TreeMap) × (value ≡ Some (Ok tree))) × ((rest : List TreeMap) × (trees ≡ Some rest))
has_tree_of None trees all e = cc
has_tree_of (Some (Err cause)) trees all e = cc
has_tree_of (Some (Ok tree)) None all e = cc
has_tree_of (Some (Ok tree)) (Some rest) all e = ((tree, refl), (rest, refl))

each_tree : (values : List Value) (inputs : List ℕ) (trees : List TreeMap) → trees_at values inputs ≡ Some trees → All (λ input. (tree : TreeMap) × (slice_index_or values input None ≡ Some (Ok tree))) inputs
each_tree values [] trees e = λ k d l. absurd (omega (arith, l))
each_tree values (input ∷ inputs) trees e =
    let parts = has_tree_of (slice_index_or values input None) (trees_at values inputs) trees e in
    All-cons (λ i. (tree : TreeMap) × (slice_index_or values i None ≡ Some (Ok tree))) input inputs parts.0 (each_tree values inputs parts.1.0 parts.1.1)

-- the inputs of a vertex that has a value have trees
pub inputs-have-trees : (problem : Problem) (vertex : ℕ) (v : Vertex) → IsProblem problem → slice_get problem.vertices vertex ≡ Some v → is_some (vertex_value problem vertex) ≡ true → All (λ input. HasTree problem input) v.inputs
unfolding vertex_value
inputs-have-trees problem vertex v is there e =
    let here : is_some (option_and_then (result_of problem.out problem.sources v.op) (trees_at (values_in problem) v.inputs)) ≡ true = ap is_some (sym (value_of-is problem.out problem.sources problem.vertices vertex v is.vertices there)) ∙ e in
    let trees = trees_of (trees_at (values_in problem) v.inputs) (result_of problem.out problem.sources v.op) here in
    each_tree (values_in problem) v.inputs trees.0 trees.1
