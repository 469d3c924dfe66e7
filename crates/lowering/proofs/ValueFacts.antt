-- A graph that stands for a file has the file's trees and failures. All is said of one finished graph.
use Rattle.std.proofs.Common.{◌≡◌, inl, inr, ◌<◌, ℕ, true, false, List, [], ◌∷◌, ◌++◌, map, length, Option, Some, None, Ok, Err, refl, sym, ap, ap₂}
use Rattle.std.proofs.Common.{◌∙◌, subst, append-nil}
use Rattle.std.specs.Prelude.{slice_index_or, Contains}
use Rattle.std.specs.List.{AllZip}
use Rattle.std.specs.Option.{option_map, option_and_then}
use Rattle.std.proofs.lemmas.List.{get_or-map, map-append}
use Rattle.std.proofs.lemmas.List.Elements.{Contains-append_left, Contains-append_right, Contains-append_cases}
use Rattle.std.proofs.lemmas.Option.{slice_get_within, get_or_from_slice_get}
use Rattle.trees.specs.TreeMap.{TreeMap, empty_tree}
use Rattle.trees.specs.declared.cause.Cause.{Cause}
use Rattle.llb.specs.declared.op.CopyFiles.{CopyFiles}
use Rattle.llb.specs.declared.op.Source.TheVariants.{Scratch}
use Rattle.llb.specs.declared.op.Op.{Op}
use Rattle.llb.specs.declared.op.Op.TheVariants.{Source as SourceOp, Exec as ExecOp, Copy as CopyOp, MakeDirs as MakeDirsOp, Merge as MergeOp}
use Rattle.llb.specs.declared.vertex.Vertex.{Vertex}
use Rattle.llb.specs.Graph.{AreVertices}
use Rattle.plans.specs.Sources.{source_tree}
use Rattle.plans.specs.Value.{Value, tree_of, with_tree, trees_at, values_of, value_of, result_of}
use Rattle.plans.specs.Value.{World, all_trees}
use Rattle.plans.specs.PrivateValue.{tree_at, value_on}
use Rattle.plans.proofs.ValueLaws.{value_of-is}
use Rattle.rows.specs.declared.row.Origin.{Origin}
use Rattle.rows.specs.declared.row.Origin.TheVariants.{Source as SourceOf, Stage as StageOf}
use Rattle.rows.specs.declared.row.Action.{Action}
use Rattle.rows.specs.declared.row.Action.TheVariants.{Run, Copy, MakeDirs}
use Rattle.rows.specs.declared.row.Step.{Step}
use Rattle.rows.specs.declared.row.Stage.{Stage}
use Rattle.lowering.specs.Meaning.{Rows, Trees, origin_tree, listed, value_with, laid_over, action_value, tree_after, stage_tree, trees_from}
use Rattle.lowering.specs.Meaning.{failure_of, step_failures, stage_failures, failures_from}
use Rattle.lowering.specs.Vertices.{Tips, Places, HasPlace, IsVertex, IsOrigin, origin_places, origins_places, IsOperation, IsLinked, IsLowered}
use Rattle.lowering.specs.Vertices.{AreLowered, IsRowLowered, AreRowsLowered}
use Rattle.llb.proofs.LineFacts.{contains_nil, contains_here, contains_cases}

-- the trees of inputs
inputs_trees : (w : World) (vertices : List Vertex) (inputs : List ℕ)
    → trees_at (values_of w.out w.sources vertices) inputs ≡ all_trees (map (tree_at w vertices) inputs)
inputs_trees w vertices [] = refl
inputs_trees w vertices (input ∷ inputs) = ap (with_tree (tree_at w vertices input)) (inputs_trees w vertices inputs)

-- the value of a vertex
pub vertex_is : (w : World) (vertices : List Vertex) (op : Op) (inputs : List ℕ) (id : ℕ) → AreVertices vertices → IsVertex vertices op inputs id
    → value_of w.out w.sources vertices id ≡ value_on w vertices op inputs
vertex_is w vertices op inputs id are is =
    value_of-is w.out w.sources vertices id (record { op = op; inputs = inputs }) are is
    ∙ ap (option_and_then (result_of w.out w.sources op)) (inputs_trees w vertices inputs)

-- the tree of a stage's last vertex; none where the stage is left out
abbrev pub tip_tree : World → List Vertex → Option ℕ → Option TreeMap
tip_tree w vertices None = None
tip_tree w vertices (Some id) = tree_at w vertices id

-- the trees of the stages' last vertices
abbrev pub tip_trees : World → List Vertex → Tips → Trees
tip_trees w vertices tips = map (tip_tree w vertices) tips

-- the line is a place of a vertex that has this cause
pub record FailsAt (w : World) (vertices : List Vertex) (places : Places) (line : ℕ) (cause : Cause) : Type 0 where
  pub id : ℕ
  pub place : HasPlace places line id
  pub value : value_of w.out w.sources vertices id ≡ Some (Err cause)

-- what fails at these places are these failures
pub record AreFailures (w : World) (vertices : List Vertex) (places : Places) (failures : List (ℕ × Cause)) : Type 0 where
  pub to : (line : ℕ) (cause : Cause) → FailsAt w vertices places line cause → Contains failures (line, cause)
  pub from : (line : ℕ) (cause : Cause) → Contains failures (line, cause) → FailsAt w vertices places line cause

failures_none : (w : World) (vertices : List Vertex) → AreFailures w vertices [] []
failures_none w vertices = record {
  to = λ line cause f. absurd (contains_nil {X = ℕ × ℕ} (line, f.id) f.place);
  from = λ line cause h. absurd (contains_nil {X = ℕ × Cause} (line, cause) h);
}

failures_both : (w : World) (vertices : List Vertex) (p q : Places) (f g : List (ℕ × Cause)) → AreFailures w vertices p f → AreFailures w vertices q g
    → AreFailures w vertices (p ++ q) (f ++ g)
failures_both w vertices p q f g first second = record {
  to = λ line cause at. elim (Contains-append_cases p q (line, at.id) at.place) [
    | inl here ↦ Contains-append_left f g (line, cause) (first.to line cause (record { id = at.id; place = here; value = at.value }))
    | inr there ↦ Contains-append_right f g (line, cause) (second.to line cause (record { id = at.id; place = there; value = at.value }))
  ];
  from = λ line cause h. elim (Contains-append_cases f g (line, cause) h) [
    | inl here ↦ (let at = first.from line cause here in record { id = at.id; place = Contains-append_left p q (line, at.id) at.place; value = at.value })
    | inr there ↦ (let at = second.from line cause there in record { id = at.id; place = Contains-append_right p q (line, at.id) at.place; value = at.value })
  ];
}

failures_as : (w : World) (vertices : List Vertex) (p q : Places) (f g : List (ℕ × Cause)) → AreFailures w vertices p f → q ≡ p → f ≡ g
    → AreFailures w vertices q g
failures_as w vertices p q f g are same also = subst (λ ps. AreFailures w vertices ps g) (sym same) (subst (AreFailures w vertices p) also are)

-- one place fails where its vertex does
failure_is : (on line : ℕ) (value : Value) (cause : Cause) → Contains (failure_of on value) (line, cause) → (line ≡ on) × (value ≡ Some (Err cause))
failure_is on line None cause h = absurd (contains_nil {X = ℕ × Cause} (line, cause) h)
failure_is on line (Some (Ok tree)) cause h = absurd (contains_nil {X = ℕ × Cause} (line, cause) h)
failure_is on line (Some (Err why)) cause h = elim (contains_cases {X = ℕ × Cause} (on, why) (line, cause) [] h) [
  | inl same ↦ (ap (λ (p : ℕ × Cause). p.0) same, ap (λ (p : ℕ × Cause). Some (Err p.1)) (sym same))
  | inr none ↦ absurd (contains_nil {X = ℕ × Cause} (line, cause) none)
]

pub failure_there : (on line : ℕ) (value : Value) (cause : Cause) → line ≡ on → value ≡ Some (Err cause) → Contains (failure_of on value) (line, cause)
failure_there on line value cause same is = rw (same, is) (contains_here {X = ℕ × Cause} (on, cause) [])

pub place_is : (line id l k : ℕ) → HasPlace ((line, id) ∷ []) l k → (l ≡ line) × (k ≡ id)
place_is line id l k h = elim (contains_cases {X = ℕ × ℕ} (line, id) (l, k) [] h) [
  | inl same ↦ (ap (λ (p : ℕ × ℕ). p.0) same, ap (λ (p : ℕ × ℕ). p.1) same)
  | inr none ↦ absurd (contains_nil {X = ℕ × ℕ} (l, k) none)
]

failures_one : (w : World) (vertices : List Vertex) (line id : ℕ) (value : Value) → value_of w.out w.sources vertices id ≡ value
    → AreFailures w vertices ((line, id) ∷ []) (failure_of line value)
failures_one w vertices line id value is = record {
  to = λ l cause at.
      let here = place_is line id l at.id at.place in
      failure_there line l value cause here.0 (sym is ∙ (ap (value_of w.out w.sources vertices) (sym here.1) ∙ at.value));
  from = λ l cause h.
      let f = failure_is line l value cause h in
      record { id = id; place = rw f.0 (contains_here {X = ℕ × ℕ} (line, id) []); value = is ∙ f.1 };
}

-- what is named has its tree, and never a cause
source_tree_is : (o : Option TreeMap) → tree_of (option_map Ok o) ≡ o
source_tree_is None = refl
source_tree_is (Some tree) = refl

source_fine : (line : ℕ) (o : Option TreeMap) → failure_of line (option_map Ok o) ≡ []
source_fine line None = refl
source_fine line (Some tree) = refl

origin_is : (w : World) (vertices : List Vertex) (tips : Tips) (origin : Origin) (id : ℕ) → AreVertices vertices → IsOrigin vertices tips origin id
    → tree_at w vertices id ≡ origin_tree w (tip_trees w vertices tips) origin
origin_is w vertices tips (SourceOf source) id are is = ap tree_of (vertex_is w vertices (SourceOp source) [] id are is)
    ∙ source_tree_is (source_tree w.sources source)
origin_is w vertices tips (StageOf number) id are is =
    let within : number < length tips = slice_get_within tips number (Some id) is in
    let at : slice_index_or tips number None ≡ Some id = get_or_from_slice_get tips number (Some id) None is in
    sym (get_or-map (tip_tree w vertices) tips number None None within ∙ ap (tip_tree w vertices) at)

origins_are : (w : World) (vertices : List Vertex) (tips : Tips) (origins : List Origin) (ids : List ℕ) → AreVertices vertices
    → AllZip (IsOrigin vertices tips) origins ids → map (tree_at w vertices) ids ≡ map (origin_tree w (tip_trees w vertices tips)) origins
origins_are w vertices tips [] [] are all = refl
origins_are w vertices tips [] (id ∷ ids) are all = absurd all
origins_are w vertices tips (origin ∷ origins) [] are all = absurd all
origins_are w vertices tips (origin ∷ origins) (id ∷ ids) are all =
    ap₂ (λ (t : Option TreeMap) (ts : Trees). t ∷ ts) (origin_is w vertices tips origin id are all.0) (origins_are w vertices tips origins ids are all.1)

origin_fine : (w : World) (vertices : List Vertex) (tips : Tips) (line : ℕ) (origin : Origin) (id : ℕ) → AreVertices vertices
    → IsOrigin vertices tips origin id → AreFailures w vertices (origin_places line origin id) []
origin_fine w vertices tips line (SourceOf source) id are is =
    failures_as w vertices ((line, id) ∷ []) ((line, id) ∷ []) _ []
    (failures_one w vertices line id (option_map Ok (source_tree w.sources source)) (vertex_is w vertices (SourceOp source) [] id are is)) refl
    (source_fine line (source_tree w.sources source))
origin_fine w vertices tips line (StageOf number) id are is = failures_none w vertices

origins_fine : (w : World) (vertices : List Vertex) (tips : Tips) (line : ℕ) (origins : List Origin) (ids : List ℕ) → AreVertices vertices
    → AllZip (IsOrigin vertices tips) origins ids → AreFailures w vertices (origins_places line origins ids) []
origins_fine w vertices tips line [] ids are all = failures_none w vertices
origins_fine w vertices tips line (origin ∷ origins) [] are all = failures_none w vertices
origins_fine w vertices tips line (origin ∷ origins) (id ∷ ids) are all =
    failures_both w vertices (origin_places line origin id) (origins_places line origins ids) [] []
    (origin_fine w vertices tips line origin id are all.0) (origins_fine w vertices tips line origins ids are all.1)

-- an operation on a vertex and on what is named
operation_is : (w : World) (vertices : List Vertex) (tips : Tips) (line base : ℕ) (op : Op) (origins : List Origin) (id : ℕ) (places : Places)
    → AreVertices vertices → IsOperation vertices tips line base op origins id places
    → value_of w.out w.sources vertices id ≡ value_with w op (tree_at w vertices base ∷ map (origin_tree w (tip_trees w vertices tips)) origins)
operation_is w vertices tips line base op origins id places are is =
    vertex_is w vertices op (base ∷ is.named) id are is.is
    ∙ ap (λ (ts : Trees). value_with w op (tree_at w vertices base ∷ ts)) (origins_are w vertices tips origins is.named are is.are)

operation_fails : (w : World) (vertices : List Vertex) (tips : Tips) (line base : ℕ) (op : Op) (origins : List Origin) (id : ℕ) (places : Places)
    → AreVertices vertices → IsOperation vertices tips line base op origins id places
    → AreFailures w vertices places (failure_of line (value_with w op (tree_at w vertices base ∷ map (origin_tree w (tip_trees w vertices tips)) origins)))
operation_fails w vertices tips line base op origins id places are is =
    let value : Value = value_with w op (tree_at w vertices base ∷ map (origin_tree w (tip_trees w vertices tips)) origins) in
    failures_as w vertices (origins_places line origins is.named ++ (line, id) ∷ []) places (failure_of line value) (failure_of line value)
    (failures_both w vertices (origins_places line origins is.named) ((line, id) ∷ []) [] (failure_of line value)
    (origins_fine w vertices tips line origins is.named are is.are)
    (failures_one w vertices line id value (operation_is w vertices tips line base op origins id places are is)))
    is.all refl

-- a linked copy
merged_is : (w : World) (before : Option TreeMap) (value : Value)
    → tree_of (value_with w MergeOp (before ∷ (tree_of value ∷ []))) ≡ tree_of (laid_over before value)
merged_is w None None = refl
merged_is w None (Some (Err cause)) = refl
merged_is w None (Some (Ok tree)) = refl
merged_is w (Some base) None = refl
merged_is w (Some base) (Some (Err cause)) = refl
merged_is w (Some base) (Some (Ok tree)) = refl

merge_fine : (w : World) (line : ℕ) (o : Option (List TreeMap)) → failure_of line (option_and_then (result_of w.out w.sources MergeOp) o) ≡ []
merge_fine w line None = refl
merge_fine w line (Some trees) = refl

laid_over_fails : (line : ℕ) (before : Option TreeMap) (value : Value) → failure_of line (laid_over before value) ≡ failure_of line value
laid_over_fails line before None = refl
laid_over_fails line before (Some (Err cause)) = refl
laid_over_fails line None (Some (Ok tree)) = refl
laid_over_fails line (Some base) (Some (Ok tree)) = refl

-- what a linked copy copies
abbrev copied_value : World → List Vertex → Tips → CopyFiles → List Origin → Value
copied_value w vertices tips files origins = value_with w (CopyOp files) (Some empty_tree ∷ map (origin_tree w (tip_trees w vertices tips)) origins)

linked_copy_is : (w : World) (vertices : List Vertex) (tips : Tips) (line base : ℕ) (files : CopyFiles) (origins : List Origin) (id : ℕ)
    (places : Places) → AreVertices vertices → (is : IsLinked vertices tips line base files origins id places)
    → value_with w (CopyOp files) (tree_at w vertices is.scratch ∷ map (origin_tree w (tip_trees w vertices tips)) origins) ≡ copied_value w vertices
    tips files origins
linked_copy_is w vertices tips line base files origins id places are is =
    ap (λ (t : Option TreeMap). value_with w (CopyOp files) (t ∷ map (origin_tree w (tip_trees w vertices tips)) origins))
    (ap tree_of (vertex_is w vertices (SourceOp Scratch) [] is.scratch are is.empty))

linked_is : (w : World) (vertices : List Vertex) (tips : Tips) (line base : ℕ) (files : CopyFiles) (origins : List Origin) (id : ℕ) (places : Places)
    → AreVertices vertices → IsLinked vertices tips line base files origins id places
    → tree_at w vertices id ≡ tree_of (laid_over (tree_at w vertices base) (copied_value w vertices tips files origins))
linked_is w vertices tips line base files origins id places are is =
    let copy : tree_at w vertices is.copy ≡ tree_of (copied_value w vertices tips files origins) =
    ap tree_of (operation_is w vertices tips line is.scratch (CopyOp files) origins is.copy is.copied are is.copies
    ∙ linked_copy_is w vertices tips line base files origins id places are is) in
    ap tree_of (vertex_is w vertices MergeOp (base ∷ (is.copy ∷ [])) id are is.merges)
    ∙ (ap (λ (t : Option TreeMap). tree_of (value_with w MergeOp (tree_at w vertices base ∷ (t ∷ [])))) copy
    ∙ merged_is w (tree_at w vertices base) (copied_value w vertices tips files origins))

linked_fails : (w : World) (vertices : List Vertex) (tips : Tips) (line base : ℕ) (files : CopyFiles) (origins : List Origin) (id : ℕ)
    (places : Places) → AreVertices vertices → IsLinked vertices tips line base files origins id places
    → AreFailures w vertices places (failure_of line (laid_over (tree_at w vertices base) (copied_value w vertices tips files origins)))
linked_fails w vertices tips line base files origins id places are is =
    let value : Value = copied_value w vertices tips files origins in
    let scratch : AreFailures w vertices ((line, is.scratch) ∷ []) [] =
    failures_one w vertices line is.scratch (Some (Ok empty_tree)) (vertex_is w vertices (SourceOp Scratch) [] is.scratch are is.empty) in
    let copy : AreFailures w vertices is.copied (failure_of line value) =
    failures_as w vertices is.copied is.copied _ (failure_of line value)
    (operation_fails w vertices tips line is.scratch (CopyOp files) origins is.copy is.copied are is.copies)
    refl (ap (failure_of line) (linked_copy_is w vertices tips line base files origins id places are is)) in
    let merge : AreFailures w vertices ((line, id) ∷ []) [] =
    failures_as w vertices ((line, id) ∷ []) ((line, id) ∷ []) _ []
    (failures_one w vertices line id (value_on w vertices MergeOp (base ∷ (is.copy ∷ [])))
    (vertex_is w vertices MergeOp (base ∷ (is.copy ∷ [])) id are is.merges))
    refl (merge_fine w line (all_trees (map (tree_at w vertices) (base ∷ (is.copy ∷ []))))) in
    failures_as w vertices ((line, is.scratch) ∷ [] ++ (is.copied ++ (line, id) ∷ [])) places ([] ++ (failure_of line value ++ []))
    (failure_of line (laid_over (tree_at w vertices base) value))
    (failures_both w vertices ((line, is.scratch) ∷ []) (is.copied ++ (line, id) ∷ []) [] (failure_of line value ++ []) scratch
    (failures_both w vertices is.copied ((line, id) ∷ []) (failure_of line value) [] copy merge))
    is.all (append-nil (failure_of line value) ∙ sym (laid_over_fails line (tree_at w vertices base) value))

-- an instruction
lowered_is : (w : World) (vertices : List Vertex) (tips : Tips) (line base : ℕ) (action : Action) (id : ℕ) (places : Places) → AreVertices vertices
    → IsLowered vertices tips line base action id places
    → tree_at w vertices id ≡ tree_of (action_value w (tip_trees w vertices tips) (tree_at w vertices base) action)
lowered_is w vertices tips line base (Run exec from) id places are is = ap tree_of (operation_is w vertices tips line base (ExecOp exec) from id places are is)
lowered_is w vertices tips line base (Copy files from false) id places are is =
    ap tree_of (operation_is w vertices tips line base (CopyOp files) (listed from) id places are is)
lowered_is w vertices tips line base (Copy files from true) id places are is = linked_is w vertices tips line base files (listed from) id places are is
lowered_is w vertices tips line base (MakeDirs path) id places are is =
    ap tree_of (operation_is w vertices tips line base (MakeDirsOp path) [] id places are is)

lowered_fails : (w : World) (vertices : List Vertex) (tips : Tips) (line base : ℕ) (action : Action) (id : ℕ) (places : Places) → AreVertices vertices
    → IsLowered vertices tips line base action id places
    → AreFailures w vertices places (failure_of line (action_value w (tip_trees w vertices tips) (tree_at w vertices base) action))
lowered_fails w vertices tips line base (Run exec from) id places are is = operation_fails w vertices tips line base (ExecOp exec) from id places are is
lowered_fails w vertices tips line base (Copy files from false) id places are is =
    operation_fails w vertices tips line base (CopyOp files) (listed from) id places are is
lowered_fails w vertices tips line base (Copy files from true) id places are is = linked_fails w vertices tips line base files (listed from) id places are is
lowered_fails w vertices tips line base (MakeDirs path) id places are is = operation_fails w vertices tips line base (MakeDirsOp path) [] id places are is

-- some instructions
steps_are : (w : World) (vertices : List Vertex) (tips : Tips) (base : ℕ) (steps : List Step) (last : ℕ) (places : Places) → AreVertices vertices
    → AreLowered vertices tips base steps last places
    → tree_at w vertices last ≡ tree_after w (tip_trees w vertices tips) (tree_at w vertices base) steps
steps_are w vertices tips base [] last places are is = ap (tree_at w vertices) is.0
steps_are w vertices tips base (step ∷ steps) last places are is =
    steps_are w vertices tips is.0 steps last is.2 are is.4
    ∙ ap (λ (t : Option TreeMap). tree_after w (tip_trees w vertices tips) t steps) (lowered_is w vertices tips step.line base step.action is.0 is.1 are is.3)

steps_fail : (w : World) (vertices : List Vertex) (tips : Tips) (base : ℕ) (steps : List Step) (last : ℕ) (places : Places) → AreVertices vertices
    → AreLowered vertices tips base steps last places
    → AreFailures w vertices places (step_failures w (tip_trees w vertices tips) (tree_at w vertices base) steps)
steps_fail w vertices tips base [] last places are is = failures_as w vertices [] places [] [] (failures_none w vertices) is.1 refl
steps_fail w vertices tips base (step ∷ steps) last places are is =
    let here : List (ℕ × Cause) = failure_of step.line (action_value w (tip_trees w vertices tips) (tree_at w vertices base) step.action) in
    failures_as w vertices (is.1 ++ is.2) places _ _
    (failures_both w vertices is.1 is.2 here (step_failures w (tip_trees w vertices tips) (tree_at w vertices is.0) steps)
    (lowered_fails w vertices tips step.line base step.action is.0 is.1 are is.3) (steps_fail w vertices tips is.0 steps last is.2 are is.4))
    is.5 (ap (λ (t : Option TreeMap). here ++ step_failures w (tip_trees w vertices tips) t steps)
    (lowered_is w vertices tips step.line base step.action is.0 is.1 are is.3))

-- a row
row_is : (w : World) (vertices : List Vertex) (tips : Tips) (row : Option Stage) (tip : Option ℕ) (places : Places) → AreVertices vertices
    → IsRowLowered vertices tips row tip places → tip_tree w vertices tip ≡ stage_tree w (tip_trees w vertices tips) row
row_is w vertices tips None tip places are is = ap (tip_tree w vertices) is.0
row_is w vertices tips (Some stage) tip places are is =
    ap (tip_tree w vertices) is.1
    ∙ (steps_are w vertices tips is.2.base stage.steps is.0 is.2.others are is.2.steps
    ∙ ap (λ (t : Option TreeMap). tree_after w (tip_trees w vertices tips) t stage.steps) (origin_is w vertices tips stage.base is.2.base are is.2.begins))

row_fails : (w : World) (vertices : List Vertex) (tips : Tips) (row : Option Stage) (tip : Option ℕ) (places : Places) → AreVertices vertices
    → IsRowLowered vertices tips row tip places → AreFailures w vertices places (stage_failures w (tip_trees w vertices tips) row)
row_fails w vertices tips None tip places are is = failures_as w vertices [] places [] [] (failures_none w vertices) is.1 refl
row_fails w vertices tips (Some stage) tip places are is =
    failures_as w vertices (origin_places stage.line stage.base is.2.base ++ is.2.others) places _ _
    (failures_both w vertices (origin_places stage.line stage.base is.2.base) is.2.others []
    (step_failures w (tip_trees w vertices tips) (tree_at w vertices is.2.base) stage.steps)
    (origin_fine w vertices tips stage.line stage.base is.2.base are is.2.begins)
    (steps_fail w vertices tips is.2.base stage.steps is.0 is.2.others are is.2.steps))
    is.2.all (ap (λ (t : Option TreeMap). step_failures w (tip_trees w vertices tips) t stage.steps)
    (origin_is w vertices tips stage.base is.2.base are is.2.begins))

-- all rows
tips_more : (w : World) (vertices : List Vertex) (tips : Tips) (row : Option Stage) (tip : Option ℕ) (places : Places) → AreVertices vertices
    → IsRowLowered vertices tips row tip places
    → tip_trees w vertices (tips ++ tip ∷ []) ≡ tip_trees w vertices tips ++ stage_tree w (tip_trees w vertices tips) row ∷ []
tips_more w vertices tips row tip places are is =
    map-append (tip_tree w vertices) tips (tip ∷ [])
    ∙ ap (λ (t : Option TreeMap). tip_trees w vertices tips ++ t ∷ []) (row_is w vertices tips row tip places are is)

pub rows_are : (w : World) (vertices : List Vertex) (tips : Tips) (rows : Rows) (lasts : Tips) (places : Places) → AreVertices vertices
    → AreRowsLowered vertices tips rows lasts places
    → tip_trees w vertices (tips ++ lasts) ≡ trees_from w (tip_trees w vertices tips) rows
rows_are w vertices tips [] lasts places are is = ap (λ (ts : Tips). tip_trees w vertices (tips ++ ts)) is.0 ∙ ap (tip_trees w vertices) (append-nil tips)
rows_are w vertices tips (row ∷ rows) lasts places are is =
    ap (λ (ts : Tips). tip_trees w vertices (tips ++ ts)) is.6
    ∙ (ap (tip_trees w vertices) (sym (append_one tips is.0 is.1))
    ∙ (rows_are w vertices (tips ++ is.0 ∷ []) rows is.1 is.3 are is.5
    ∙ ap (λ (ts : Trees). trees_from w ts rows) (tips_more w vertices tips row is.0 is.2 are is.4)))
  where
    append_one : (xs : Tips) (x : Option ℕ) (ys : Tips) → (xs ++ x ∷ []) ++ ys ≡ xs ++ x ∷ ys
    append_one [] x ys = refl
    append_one (z ∷ zs) x ys = ap (λ ts. z ∷ ts) (append_one zs x ys)

pub rows_fail : (w : World) (vertices : List Vertex) (tips : Tips) (rows : Rows) (lasts : Tips) (places : Places) → AreVertices vertices
    → AreRowsLowered vertices tips rows lasts places
    → AreFailures w vertices places (failures_from w (tip_trees w vertices tips) rows)
rows_fail w vertices tips [] lasts places are is = failures_as w vertices [] places [] [] (failures_none w vertices) is.1 refl
rows_fail w vertices tips (row ∷ rows) lasts places are is =
    failures_as w vertices (is.2 ++ is.3) places _ _
    (failures_both w vertices is.2 is.3 (stage_failures w (tip_trees w vertices tips) row) (failures_from w (tip_trees w vertices (tips ++ is.0 ∷ [])) rows)
    (row_fails w vertices tips row is.0 is.2 are is.4) (rows_fail w vertices (tips ++ is.0 ∷ []) rows is.1 is.3 are is.5))
    is.7 (ap (λ (ts : Trees). stage_failures w (tip_trees w vertices tips) row ++ failures_from w ts rows) (tips_more w vertices tips row is.0 is.2 are is.4))
