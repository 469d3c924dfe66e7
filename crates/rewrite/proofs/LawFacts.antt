-- What follows for answers to a pruned plan.
use Rattle.std.proofs.Common.{◌≡◌, ◌<◌, ℕ, ◌∷◌, Some, None, Ok, Err, length, refl, sym, ap, ◌∙◌, subst, arith}
use Rattle.std.specs.Prelude.{Contains}
use Rattle.std.proofs.lemmas.Option.{slice_get_within}
use Rattle.trees.specs.TreeMap.{TreeMap}
use Rattle.trees.specs.declared.cause.Cause.{Cause}
use Rattle.llb.specs.Places.{least_line}
use Rattle.llb.proofs.LineFacts.{least_of}
use Rattle.plans.specs.Plan.{PlanValue, IsPlan, NeedsAll, problem_of, IsValue, vertex_value}
use Rattle.plans.specs.Value.{Out, Value, tree_of}
use Rattle.plans.proofs.NeedsLaws.{failing_leaves}
use Rattle.lowering.specs.Meaning.{Rows, tree_of_stage, Fails}
use Rattle.lowering.specs.Means.{world, lines_at, AreLined, Means}
use Rattle.lowering.specs.Outcome.{IsOutcome}
use Rattle.llb.specs.declared.op.Op.TheVariants.{Merge as MergeOp}
use Rattle.llb.specs.declared.vertex.Vertex.{Vertex}
use Rattle.reached.proofs.SpellingFacts.{there_is}
use Rattle.rewrite.specs.Flat.{IsFlattened, MergesAreFlat}
use Rattle.rewrite.specs.Pruned.{AreNames, HasReachedFailure, IsPruned, KeepsMeaning}
use Rattle.rewrite.proofs.PrunedFacts.{failed_within, names_first}
use Rattle.rewrite.proofs.ReachFacts.{named_becomes}

pub built_is : {C : Type 0} (out : Out) (plan pruned : PlanValue C) (rows : Rows) (target : ℕ) (tree : TreeMap) → Means plan rows target
    → KeepsMeaning plan pruned → IsValue (problem_of out pruned) pruned.target (Ok tree)
    → IsOutcome (world out plan.sources) rows target (Ok tree)
built_is out plan pruned rows target tree means keeps is = sym (means.tree out) ∙ (ap tree_of (sym (keeps.last out)) ∙ ap tree_of is)

-- a value that is no tree
treeless : (value : Value) → ((tree : TreeMap) → value ≡ Some (Ok tree) → ⊥) → tree_of value ≡ None
treeless None not = refl
treeless (Some (Err cause)) not = refl
treeless (Some (Ok tree)) not = absurd (not tree refl)

-- each vertex of a pruned plan has a line
pub lined : {C : Type 0} (plan pruned : PlanValue C) (id : ℕ) → AreLined plan.graph → IsPruned plan pruned → id < length pruned.graph.vertices
    → (line : ℕ) × Contains (lines_at pruned.graph id) line
lined plan pruned id are is lt =
    let k = is.onto id lt in
    let line = are k.0 (let l = slice_get_within is.names k.0 (Some id) k.1 in omega (arith, l, is.long)) in
    (line.0, subst (λ ls. Contains ls line.0) (sym (is.lines k.0 id k.1)) line.1)

-- a failure behind which there is a line
pub failure_lined : {C : Type 0} (out : Out) (plan new : PlanValue C) (rows : Rows) (target id line : ℕ) (cause : Cause) → Means plan rows target
    → (some : ℕ) × Contains (lines_at new.graph id) some → IsPlan new → KeepsMeaning plan new → NeedsAll (problem_of out new)
    → IsValue (problem_of out new) id (Err cause) → line ≡ least_line (lines_at new.graph id) → (tree_of_stage (world out plan.sources) rows target ≡ None) × Fails (world out plan.sources) rows line cause
failure_lined out plan new rows target id line cause means some plans keeps needs fails least =
    let lt : id < length new.graph.vertices = failed_within out new id cause fails in
    let behind : Contains (lines_at new.graph id) line =
    subst (Contains (lines_at new.graph id)) (sym least) (least_of (lines_at new.graph id) some.0 some.1) in
    let reached : HasReachedFailure out new line cause = record { id = id; reached = needs id lt; behind = behind; value = fails } in
    let before = (keeps.failures out line cause).0 reached in
    let none : tree_of (vertex_value (problem_of out new) new.target) ≡ None =
    treeless (vertex_value (problem_of out new) new.target)
    (λ tree built. failing_leaves (problem_of out new) id cause tree plans.graph.vertices needs fails built) in (
      sym (means.tree out)
          ∙ (ap tree_of (sym (keeps.last out)) ∙ none),
      (means.failures out line cause).0
          (record { id = before.id; behind = before.behind; value = before.value }),
    )

pub failure_is : {C : Type 0} (out : Out) (plan pruned : PlanValue C) (rows : Rows) (target id line : ℕ) (cause : Cause) → Means plan rows target
    → AreLined plan.graph → IsPlan pruned → IsPruned plan pruned → KeepsMeaning plan pruned
    → NeedsAll (problem_of out pruned) → IsValue (problem_of out pruned) id (Err cause) → line ≡ least_line (lines_at pruned.graph id)
    → (tree_of_stage (world out plan.sources) rows target ≡ None) × Fails (world out plan.sources) rows line cause
failure_is out plan pruned rows target id line cause means are plans is keeps needs fails least =
    failure_lined out plan pruned rows target id line cause means (lined plan pruned id are is (failed_within out pruned id cause fails)) plans keeps
    needs fails least

-- ---- flattened plans

-- each vertex of a flattened plan has a line
pub flat_lined : {C : Type 0} (plan flat : PlanValue C) (id : ℕ) → AreLined plan.graph → IsFlattened plan flat → id < length flat.graph.vertices
    → (line : ℕ) × Contains (lines_at flat.graph id) line
flat_lined plan flat id are is lt =
    let k = is.onto id lt in
    let line = are k.0 (let l = slice_get_within is.names k.0 (Some id) k.1 in omega (arith, l, is.long)) in
    (line.0, (is.lines id line.0 lt).1 (k.0, named_becomes plan flat is k.0 id k.1, line.1))

pub flat_failure_is : {C : Type 0} (out : Out) (plan flat : PlanValue C) (rows : Rows) (target id line : ℕ) (cause : Cause) → Means plan rows target
    → AreLined plan.graph → IsPlan flat → IsFlattened plan flat → KeepsMeaning plan flat
    → NeedsAll (problem_of out flat) → IsValue (problem_of out flat) id (Err cause) → line ≡ least_line (lines_at flat.graph id)
    → (tree_of_stage (world out plan.sources) rows target ≡ None) × Fails (world out plan.sources) rows line cause
flat_failure_is out plan flat rows target id line cause means are plans is keeps needs fails least =
    failure_lined out plan flat rows target id line cause means (flat_lined plan flat id are is (failed_within out flat id cause fails)) plans keeps
    needs fails least

-- a plan keeps its own meaning
pub kept_as_is : {C : Type 0} (plan : PlanValue C) → KeepsMeaning plan plan
kept_as_is plan = record {
  config = refl;
  sources = refl;
  last = λ out. refl;
  failures = λ out line cause. (λ f. f, λ f. f);
}

-- what keeps the meaning twice keeps it
pub kept_on : {C : Type 0} (first second third : PlanValue C) → KeepsMeaning first second → KeepsMeaning second third → KeepsMeaning first third
kept_on first second third one two = record {
  config = two.config ∙ one.config;
  sources = two.sources ∙ one.sources;
  last = λ out. two.last out ∙ one.last out;
  failures = λ out line cause. (
    λ f. (one.failures out line cause).0 ((two.failures out line cause).0 f),
    λ f. (two.failures out line cause).1 ((one.failures out line cause).1 f),
  );
}

-- where merges are flat, they are after pruning
pub pruned_flat : {C : Type 0} (plan pruned : PlanValue C) → IsPruned plan pruned → MergesAreFlat plan.graph.vertices → MergesAreFlat pruned.graph.vertices
pruned_flat plan pruned is flat merge first v u rest at op_is in_is at_first u_op =
    let k = is.onto merge (slice_get_within pruned.graph.vertices merge v at) in
    let x = there_is plan.graph.vertices k.0 (let l = slice_get_within is.names k.0 (Some merge) k.1 in omega (arith, l, is.long)) in
    let s = is.same k.0 merge x.0 k.1 x.1 in
    let one : s.0 ≡ v = (let f : Some s.0 ≡ Some v = sym s.1 ∙ at in cc) in
    let x_op : x.0.op ≡ MergeOp = sym s.2.op ∙ (ap (λ (y : Vertex). y.op) one ∙ op_is) in
    let names : AreNames is.names x.0.inputs (first ∷ rest) =
    subst (λ ins. AreNames is.names x.0.inputs ins) (ap (λ (y : Vertex). y.inputs) one ∙ in_is) s.2.inputs in
    let begun = names_first is.names x.0.inputs first rest names in
    let y = there_is plan.graph.vertices begun.0 (let l = slice_get_within is.names begun.0 (Some first) begun.3 in omega (arith, l, is.long)) in
    let t = is.same begun.0 first y.0 begun.3 y.1 in
    let two : t.0 ≡ u = (let f : Some t.0 ≡ Some u = sym t.1 ∙ at_first in cc) in
    flat k.0 begun.0 x.0 y.0 begun.1 x.1 x_op begun.2 y.1 (sym t.2.op ∙ (ap (λ (z : Vertex). z.op) two ∙ u_op))
