-- Pruned and flattened plans keep the order of lines, and the failure of least line that is left is the first of the file.
use Rattle.std.proofs.Common.{◌≡◌, inl, inr, ◌≤◌, ℕ, zero, suc, List, [], ◌∷◌, ◌++◌, length, Option, Some, None, Err, refl, sym, ap, ◌∙◌, subst, arith}
use Rattle.std.specs.Prelude.{slice_get, Contains}
use Rattle.std.specs.List.{All, AllZip}
use Rattle.std.proofs.lemmas.List.Elements.{All-cons, All-nil, All-head, All-tail, All-weaker}
use Rattle.std.proofs.lemmas.Option.{slice_get_within}
use Rattle.trees.specs.declared.cause.Cause.{Cause}
use Rattle.llb.specs.Graph.{GraphValue, IsGraph}
use Rattle.llb.specs.Places.{least_line}
use Rattle.llb.specs.declared.op.Op.{Op}
use Rattle.llb.specs.declared.op.Op.TheVariants.{Source as SourceOp, Exec as ExecOp, Copy as CopyOp, MakeDirs as MakeDirsOp, Merge as MergeOp}
use Rattle.llb.specs.declared.vertex.Vertex.{Vertex}
use Rattle.plans.specs.Plan.{Problem, PlanValue, IsPlan, NeedsAll, problem_of, IsValue, line_at, HasLinesInOrder}
use Rattle.plans.specs.Value.{Out}
use Rattle.lowering.specs.Meaning.{Rows}
use Rattle.lowering.specs.Means.{world, lines_at, AreLined, Means}
use Rattle.rows.specs.Order.{IsInOrder}
use Rattle.lowering.specs.Order.{HasLineBy, LinesInOrder}
use Rattle.lowering.specs.Outcome.{IsOutcome}
use Rattle.llb.proofs.LineFacts.{least_below}
use Rattle.lowering.proofs.OrderFacts.{in_order_least, least_in_order}
use Rattle.lowering.proofs.SerialFacts.{serial_least, serial_fails}
use Rattle.reached.proofs.SpellingFacts.{there_is}
use Rattle.reached.specs.Spelled.{with_first, spelled_as, spelled_at, spelled_to, spelled_out, flat_inputs}
use Rattle.rewrite.specs.Flat.{IsFlattened}
use Rattle.rewrite.specs.Pruned.{HasReachedFailure, IsPruned, KeepsMeaning}
use Rattle.rewrite.proofs.PrunedFacts.{failed_within}
use Rattle.rewrite.proofs.LawFacts.{lined, flat_lined, failure_lined}
use Rattle.rewrite.proofs.ReachFacts.{named_becomes}

-- what holds of some values holds, renamed, of others
zip_all : {X Y : Type 0} (R : X → Y → Type 0) (P : X → Type 0) (Q : Y → Type 0) → ((x : X) (y : Y) → R x y → P x → Q y)
    → (xs : List X) (ys : List Y) → AllZip R xs ys → All P xs → All Q ys
zip_all R P Q to [] [] zip all = All-nil Q
zip_all R P Q to [] (y ∷ ys) zip all = absurd zip
zip_all R P Q to (x ∷ xs) [] zip all = absurd zip
zip_all R P Q to (x ∷ xs) (y ∷ ys) zip all = All-cons Q y ys (to x y zip.0 (All-head P x xs all)) (zip_all R P Q to xs ys zip.1 (All-tail P x xs all))

all_both : {X : Type 0} (P : X → Type 0) (xs ys : List X) → All P xs → All P ys → All P (xs ++ ys)
all_both P [] ys first second = second
all_both P (x ∷ xs) ys first second = All-cons P x (xs ++ ys) (All-head P x xs first) (all_both P xs ys (All-tail P x xs first) second)

-- a pruned plan
pub pruned_in_order : {C : Type 0} (plan pruned : PlanValue C) → IsPruned plan pruned → LinesInOrder plan.graph → LinesInOrder pruned.graph
pruned_in_order plan pruned is in_order = λ id line u there behind.
    let k = is.onto id (slice_get_within pruned.graph.vertices id u there) in
    let x = there_is plan.graph.vertices k.0 (let l = slice_get_within is.names k.0 (Some id) k.1 in omega (arith, l, is.long)) in
    let s = is.same k.0 id x.0 k.1 x.1 in
    let one : s.0 ≡ u = (let f : Some s.0 ≡ Some u = sym s.1 ∙ there in cc) in
    let old = in_order k.0 line x.0 x.1 (subst (λ ls. Contains ls line) (is.lines k.0 id k.1) behind) in
    subst (λ (y : Vertex). All (HasLineBy pruned.graph line) y.inputs) one
    (zip_all (λ old new. slice_get is.names old ≡ Some (Some new)) (HasLineBy plan.graph line) (HasLineBy pruned.graph line)
    (λ j i named by. (by.0, subst (λ ls. Contains ls by.0) (sym (is.lines j i named)) by.1, by.2)) x.0.inputs s.0.inputs s.2.inputs old)

-- what stands for a vertex in the first place of a merge has lines that are no greater
spelled_by : (graph : GraphValue) (depth id line : ℕ) → LinesInOrder graph → HasLineBy graph line id → All (HasLineBy graph line) (spelled_to graph.vertices depth id)
spelled_by graph zero id line in_order by = All-cons (HasLineBy graph line) id [] by (All-nil (HasLineBy graph line))
spelled_by graph (suc depth) id line in_order by =
    by_vertex (slice_get graph.vertices id) refl (λ input. spelled_by graph depth input line in_order)
  where
    inputs_by : (v : Vertex) → slice_get graph.vertices id ≡ Some v → All (HasLineBy graph line) v.inputs
    inputs_by v there =
        All-weaker (HasLineBy graph by.0) (HasLineBy graph line) (λ input before. (before.0, before.1, (let l = before.2 in let m = by.2 in omega (arith, l, m)))) v.inputs
        (in_order id by.0 v there by.1)

    first_by : ((input : ℕ) → HasLineBy graph line input → All (HasLineBy graph line) (spelled_to graph.vertices depth input)) → (inputs : List ℕ)
        → All (HasLineBy graph line) inputs → All (HasLineBy graph line) (with_first (spelled_to graph.vertices depth) inputs)
    first_by deeper [] all = All-nil (HasLineBy graph line)
    first_by deeper (first ∷ rest) all =
        all_both (HasLineBy graph line) (spelled_to graph.vertices depth first) rest (deeper first (All-head (HasLineBy graph line) first rest all)) (All-tail (HasLineBy graph line) first rest all)

    own : All (HasLineBy graph line) (id ∷ [])
    own = All-cons (HasLineBy graph line) id [] by (All-nil (HasLineBy graph line))

    by_op : ((input : ℕ) → HasLineBy graph line input → All (HasLineBy graph line) (spelled_to graph.vertices depth input)) → (op : Op) (inputs : List ℕ)
        → All (HasLineBy graph line) inputs → All (HasLineBy graph line) (spelled_as (spelled_to graph.vertices depth) id op inputs)
    by_op deeper (SourceOp source) inputs all = own
    by_op deeper (ExecOp exec) inputs all = own
    by_op deeper (CopyOp files) inputs all = own
    by_op deeper (MakeDirsOp path) inputs all = own
    by_op deeper MergeOp inputs all = first_by deeper inputs all

    by_vertex : (o : Option Vertex) → slice_get graph.vertices id ≡ o
        → ((input : ℕ) → HasLineBy graph line input → All (HasLineBy graph line) (spelled_to graph.vertices depth input))
        → All (HasLineBy graph line) (spelled_at (spelled_to graph.vertices depth) id (slice_get graph.vertices id))
    by_vertex None e deeper = rw e own
    by_vertex (Some v) e deeper = rw e (by_op deeper v.op v.inputs (inputs_by v e))

out_by : (graph : GraphValue) (id line : ℕ) → LinesInOrder graph → HasLineBy graph line id → All (HasLineBy graph line) (spelled_out graph.vertices id)
unfolding spelled_out
out_by graph id line in_order by = spelled_by graph (length graph.vertices) id line in_order by

flat_by : (graph : GraphValue) (line : ℕ) (op : Op) (inputs : List ℕ) → LinesInOrder graph → All (HasLineBy graph line) inputs
    → All (HasLineBy graph line) (flat_inputs graph.vertices op inputs)
flat_by graph line (SourceOp source) inputs in_order all = all
flat_by graph line (ExecOp exec) inputs in_order all = all
flat_by graph line (CopyOp files) inputs in_order all = all
flat_by graph line (MakeDirsOp path) inputs in_order all = all
flat_by graph line MergeOp [] in_order all = All-nil (HasLineBy graph line)
flat_by graph line MergeOp (first ∷ rest) in_order all =
    all_both (HasLineBy graph line) (spelled_out graph.vertices first) rest
    (out_by graph first line in_order (All-head (HasLineBy graph line) first rest all)) (All-tail (HasLineBy graph line) first rest all)

-- a flattened plan
pub flat_in_order : {C : Type 0} (plan flat : PlanValue C) → IsFlattened plan flat → LinesInOrder plan.graph → LinesInOrder flat.graph
flat_in_order plan flat is in_order = λ id line u there behind.
    let k = (is.lines id line (slice_get_within flat.graph.vertices id u there)).0 behind in
    let x = k.1.vertex in
    let s = k.1.renamed in
    let one : s ≡ u = (let f : Some s ≡ Some u = sym k.1.is ∙ there in cc) in
    let old = flat_by plan.graph line x.op x.inputs in_order (in_order k.0 line x k.1.there k.2) in
    subst (λ (y : Vertex). All (HasLineBy flat.graph line) y.inputs) one
    (zip_all (λ old new. slice_get is.names old ≡ Some (Some new)) (HasLineBy plan.graph line) (HasLineBy flat.graph line)
    (λ j i named by.
    let y = there_is plan.graph.vertices j (let l = slice_get_within is.names j (Some i) named in omega (arith, l, is.long)) in
    let t = is.same j i y.0 named y.1 in
    (by.0, (is.lines i by.0 (slice_get_within flat.graph.vertices i t.0 t.1)).1 (j, named_becomes plan flat is j i named, by.1), by.2))
    (flat_inputs plan.graph.vertices x.op x.inputs) s.inputs k.1.same.inputs old)

-- ---- least lines

-- a pruned plan keeps the order of the least ones, as vertices keep their lines
pub pruned_least : {C : Type 0} (out : Out) (plan pruned : PlanValue C) → IsPruned plan pruned → HasLinesInOrder (problem_of out plan)
    → HasLinesInOrder (problem_of out pruned)
pruned_least out plan pruned is in_order = λ id u there.
    let old : Problem = problem_of out plan in
    let new : Problem = problem_of out pruned in
    let k = is.onto id (slice_get_within pruned.graph.vertices id u there) in
    let x = there_is plan.graph.vertices k.0 (let l = slice_get_within is.names k.0 (Some id) k.1 in omega (arith, l, is.long)) in
    let s = is.same k.0 id x.0 k.1 x.1 in
    let one : s.0 ≡ u = (let f : Some s.0 ≡ Some u = sym s.1 ∙ there in cc) in
    let here : line_at new id ≡ line_at old k.0 = ap least_line (is.lines k.0 id k.1) in
    subst (λ (y : Vertex). All (λ input. line_at new input ≤ line_at new id) y.inputs) one
    (zip_all (λ j i. slice_get is.names j ≡ Some (Some i)) (λ j. line_at old j ≤ line_at old k.0) (λ i. line_at new i ≤ line_at new id)
    (λ j i named low. (let same : line_at new i ≡ line_at old j = ap least_line (is.lines j i named) in omega (arith, here, same, low)))
    x.0.inputs s.0.inputs s.2.inputs (in_order k.0 x.0 x.1))

-- if all lines of a plan are in order, so are the least ones of the pruned plan
pub pruned_order : {C : Type 0} (out : Out) (plan pruned : PlanValue C) → AreLined plan.graph → IsPruned plan pruned → LinesInOrder plan.graph
    → HasLinesInOrder (problem_of out pruned)
pruned_order out plan pruned are is in_order =
    in_order_least out pruned (pruned_in_order plan pruned is in_order) (λ id lt. lined plan pruned id are is lt)

-- a flattened plan keeps their order if each vertex has a line
pub flat_least : {C : Type 0} (out : Out) (plan flat : PlanValue C) → IsGraph plan.graph → AreLined plan.graph → IsFlattened plan flat
    → HasLinesInOrder (problem_of out plan) → HasLinesInOrder (problem_of out flat)
flat_least out plan flat graph are is in_order =
    in_order_least out flat (flat_in_order plan flat is (least_in_order out plan graph are in_order)) (λ id lt. flat_lined plan flat id are is lt)

-- ---- the first failure

-- no vertex of a plan that fails has a lesser least line than this one
abbrev pub IsLeastFailure : {C : Type 0} → Out → PlanValue C → ℕ → Type 0
IsLeastFailure out plan line = (other : ℕ) (why : Cause) → IsValue (problem_of out plan) other (Err why) → line ≤ least_line (lines_at plan.graph other)

pub first_is : {C : Type 0} (out : Out) (plan new : PlanValue C) (rows : Rows) (target id line : ℕ) (cause : Cause) → Means plan rows target
    → IsInOrder rows → NeedsAll (problem_of out plan) → AreLined new.graph → IsPlan new → KeepsMeaning plan new
    → NeedsAll (problem_of out new) → IsValue (problem_of out new) id (Err cause) → line ≡ least_line (lines_at new.graph id) → IsLeastFailure out new line
    → IsOutcome (world out plan.sources) rows target (Err (line, cause))
first_is out plan new rows target id line cause means in_order all are plans keeps needs fails on least =
    let named = failure_lined out plan new rows target id line cause means (are id (failed_within out new id cause fails)) plans keeps needs fails on in
    let first = serial_least (world out plan.sources) rows line cause in_order named.1 in
    elim first.2 [
      | inl same ↦ (named.0, first.1 ∙ ap Some same)
      | inr less ↦
          let failure = (means.failures out first.0.0 first.0.1).1 (serial_fails (world out plan.sources) rows first.0 first.1) in
          let within = failed_within out plan failure.id first.0.1 failure.value in
          let there : HasReachedFailure out plan first.0.0 first.0.1 =
          record { id = failure.id; reached = all failure.id within; behind = failure.behind; value = failure.value } in
          let here = (keeps.failures out first.0.0 first.0.1).1 there in
          let most = least here.id first.0.1 here.value in
          let low = least_below (lines_at new.graph here.id) first.0.0 here.behind in
          absurd (omega (arith, less, most, low))
    ]

pub pruned_first : {C : Type 0} (out : Out) (plan pruned : PlanValue C) (rows : Rows) (target id line : ℕ) (cause : Cause) → Means plan rows target
    → IsInOrder rows → NeedsAll (problem_of out plan) → AreLined plan.graph → IsPlan pruned → IsPruned plan pruned → KeepsMeaning plan pruned
    → NeedsAll (problem_of out pruned) → IsValue (problem_of out pruned) id (Err cause) → line ≡ least_line (lines_at pruned.graph id) → IsLeastFailure out pruned line
    → IsOutcome (world out plan.sources) rows target (Err (line, cause))
pruned_first out plan pruned rows target id line cause means in_order all are plans is keeps needs fails on least =
    first_is out plan pruned rows target id line cause means in_order all (λ k lt. lined plan pruned k are is lt) plans keeps
    needs fails on least
