-- What is drawn is what is written of the simplified plan.
use Rattle.std.specs.Prelude.{◌≡◌, ◌<◌, ℕ, Some, Ok, Err, List, [], slice_get}
use Rattle.std.proofs.Common.{ap, sym, ◌∙◌, subst, arith}
use Rattle.plain.specs.declared.fault.Fault.{Fault}
use Rattle.plain.specs.declared.fault.Fault.TheVariants.{Because}
use Rattle.llb.specs.declared.vertex.Vertex.{Vertex}
use Rattle.llb.specs.Graph.{AreVertices}
use Rattle.runs.specs.declared.run.RunOutcome.TheVariants.{Exit as Exited}
use Rattle.plans.specs.Plan.{PlanValue, IsPlan, problem_of, vertex_value, NeedsAll}
use Rattle.plans.specs.Value.{Out, value_of}
use Rattle.rewrite.specs.Flat.{MergesAreFlat}
use Rattle.rewrite.specs.Pruned.{KeepsMeaning}
use Rattle.addresses.specs.Address.{addresses_of, clash_after}
use Rattle.definition.specs.Definition.{AreAlike, IsWritten}
use Rattle.definition.specs.Reading.{IsReadAs}
use Rattle.definition.specs.declared.fault.Defect.{Defect}
use Rattle.definition.specs.declared.fault.Defect.TheVariants.{Malformed, Unknown, Repeated, Clash}
use Rattle.drawing.specs.Drawn.{IsSimplified, HaveOneAddress, Draws, Clashes}

-- the target's value stays
value_kept : {C : Type 0} (plan simple : PlanValue C) → KeepsMeaning plan simple → (out : Out)
    → value_of out plan.sources simple.graph.vertices simple.target ≡ value_of out plan.sources plan.graph.vertices plan.target
unfolding vertex_value
value_kept plan simple keeps out = ap (λ sources. value_of out sources simple.graph.vertices simple.target) (sym keeps.sources) ∙ keeps.last out

pub drawn : {C : Type 0} (plan simple : PlanValue C) (text : List ℕ) → IsPlan simple → IsSimplified plan simple → MergesAreFlat simple.graph.vertices
    → KeepsMeaning plan simple → ((out : Out) → NeedsAll (problem_of out simple)) → IsWritten simple.graph simple.target (Ok text)
    → IsReadAs text (Ok (simple.graph, simple.target)) → Draws plan text
drawn plan simple text plans is flat keeps needed written read = record {
  simple = simple;
  is = plans.graph;
  simplified = is;
  defines = record { written = written; read = read; reached = needed (λ request. Exited 1); flat = flat };
  value = value_kept plan simple keeps;
}

-- the law of clashes, as far as it is used
abbrev pub AreTold : Type 0
AreTold = (vertices : List Vertex) (place : ℕ) → clash_after [] vertices ≡ Some place
    → (before : ℕ) × AreAlike (addresses_of vertices) before place

-- vertices of a graph at different places are different
different : (vertices : List Vertex) (first second : ℕ) → AreVertices vertices → AreAlike (addresses_of vertices) first second
    → HaveOneAddress vertices first second
different vertices first second are alike = record {
  alike = alike;
  different = λ one other at_first at_second same.
      let again : slice_get vertices second ≡ Some one = at_second ∙ ap Some (sym same) in
      let equal : first ≡ second = are.once first second one at_first again in
      let less : first < second = alike.before in
      omega arith;
}

clashing : {C : Type 0} (plan simple : PlanValue C) (place : ℕ) → AreTold → IsPlan simple → IsSimplified plan simple
    → clash_after [] simple.graph.vertices ≡ Some place → Clashes plan
clashing plan simple place told plans is clash =
    let found = told simple.graph.vertices place clash in
    record {
      simple = simple;
      simplified = is;
      before = found.0;
      place = place;
      clash = clash;
      same = different simple.graph.vertices found.0 place plans.graph.vertices found.1;
    }

told_clashes : {C : Type 0} (plan simple : PlanValue C) (defect : Defect) → AreTold → IsPlan simple → IsSimplified plan simple
    → IsWritten simple.graph simple.target (Err (Because defect)) → Clashes plan
told_clashes plan simple (Clash place) told plans is clash = clashing plan simple place told plans is clash
told_clashes plan simple (Malformed place) told plans is none = absurd none
told_clashes plan simple (Unknown place) told plans is none = absurd none
told_clashes plan simple (Repeated place) told plans is none = absurd none

pub clashes : {C : Type 0} (plan simple : PlanValue C) (fault : Fault Defect) (defect : Defect) → fault ≡ Because defect → AreTold → IsPlan simple
    → IsSimplified plan simple → IsWritten simple.graph simple.target (Err fault) → Clashes plan
clashes plan simple fault defect because told plans is written =
    told_clashes plan simple defect told plans is
    (subst (λ (f : Fault Defect). IsWritten simple.graph simple.target (Err f)) because written)
