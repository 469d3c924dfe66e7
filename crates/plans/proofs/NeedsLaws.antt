-- What follows where the target needs every vertex: a vertex that fails leaves it without a tree.
use Rattle.std.proofs.Common.{◌≡◌, ℕ, zero, suc, ◌<◌, List, [], ◌∷◌, length, Option, Some, None, Ok, Err, refl, sym, ap, ◌∙◌, arith}
use Rattle.std.specs.List.{slice_index_or}
use Rattle.std.specs.Option.{option_and_then}
use Rattle.trees.specs.TreeMap.{TreeMap}
use Rattle.trees.specs.declared.cause.Cause.{Cause}
use Rattle.llb.specs.Graph.{AreVertices}
use Rattle.plain.specs.Marks.{IsPath}
use Rattle.llb.specs.Reach.{HasInput}
use Rattle.plans.specs.Plan.{Problem, IsValue, NeedsAll, vertex_value}
use Rattle.plans.specs.Value.{Value, tree_of, with_tree, trees_at, result_of, values_of}
use Rattle.plans.proofs.ValueLaws.{value_of-is, value_within}

with_none : (o : Option TreeMap) → with_tree o None ≡ None
with_none None = refl
with_none (Some tree) = refl

-- without the tree of one input there are no trees of all
without_input : (values : List Value) (inputs : List ℕ) (k input : ℕ) → k < length inputs → slice_index_or inputs k input ≡ input → tree_of (slice_index_or values input None) ≡ None → trees_at values inputs ≡ None
without_input values [] k input l there none = absurd (omega (arith, l))
without_input values (first ∷ inputs) zero input l there none =
    let same : first ≡ input = there in
    rw (same, none) refl
without_input values (first ∷ inputs) (suc k) input l there none =
    let rest : trees_at values inputs ≡ None = without_input values inputs k input (omega (arith, l)) there none in
    rw rest (with_none (tree_of (slice_index_or values first None)))

-- a vertex with an input that has no tree has none
input_treeless : (problem : Problem) (vertex input : ℕ) → AreVertices problem.vertices → HasInput problem.vertices vertex input → tree_of (vertex_value problem input) ≡ None → tree_of (vertex_value problem vertex) ≡ None
unfolding vertex_value
input_treeless problem vertex input are has none =
    let values : List Value = values_of problem.out problem.sources problem.vertices in
    let trees : trees_at values has.v.inputs ≡ None = without_input values has.v.inputs has.among.0 input has.among.1 has.among.2 none in
    ap tree_of (value_of-is problem.out problem.sources problem.vertices vertex has.v are has.there)
    ∙ ap (λ (o : Option (List TreeMap)). tree_of (option_and_then (result_of problem.out problem.sources has.v.op) o)) trees

-- so a vertex from which a path leads to one without a tree has none
pub treeless : (problem : Problem) (path : List ℕ) (from to : ℕ) → AreVertices problem.vertices → IsPath (HasInput problem.vertices) from path to → tree_of (vertex_value problem to) ≡ None → tree_of (vertex_value problem from) ≡ None
treeless problem [] from to are leads none = rw leads none
treeless problem (next ∷ path) from to are leads none =
    input_treeless problem from next are leads.0 (treeless problem path next to are leads.1 none)

-- where the target needs every vertex, one that fails leaves it without a tree
pub failing_leaves : (problem : Problem) (vertex : ℕ) (cause : Cause) (tree : TreeMap) → AreVertices problem.vertices → NeedsAll problem → IsValue problem vertex (Err cause) → ¬ IsValue problem problem.target (Ok tree)
unfolding vertex_value
failing_leaves problem vertex cause tree are needs fails built =
    let path = needs vertex (value_within problem.out problem.sources problem.vertices vertex (Err cause) fails) in
    let none = treeless problem path.0 problem.target vertex are path.1 (ap tree_of fails) in
    let f : None ≡ Some tree = sym none ∙ ap tree_of built in
    cc
