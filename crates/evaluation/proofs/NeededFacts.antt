-- What a stage says that isn't needed changes nothing.
use Rattle.std.specs.Prelude.{◌≡◌, ◌+◌, ℕ, suc, Bool, true, false, List, [], ◌∷◌, ◌++◌, Some, None, Result, Ok, Err, Contains, length, slice_get, refl, if◌then◌else◌}
use Rattle.std.proofs.Common.{sym, ◌∙◌, ap, subst, arith, length-append}
use Rattle.plain.specs.Marks.{is_marked, IsPath}
use Rattle.plain.proofs.MarkFacts.{reached_more}
use Rattle.expand.specs.declared.reason.Rejection.{Rejection}
use Rattle.plans.specs.Images.{ImagesValue}
use Rattle.rows.specs.declared.row.Origin.TheVariants.{Stage as StageOf}
use Rattle.scopes.specs.Evaluate.{Values}
use Rattle.scopes.specs.Scope.{value_in}
use Rattle.scopes.specs.declared.declaration.Declaration.{Declaration}
use Rattle.stages.specs.Needed.{stage_origins, AreNeeded, Refers}
use Rattle.stages.specs.Table.{TableValue}
use Rattle.stages.specs.declared.stage.ResolvedStage.{ResolvedStage}
use Rattle.imageconfig.specs.declared.config.Config.{Config}
use Rattle.evaluation.specs.Evaluated.{no_stage, evaluated}
use Rattle.evaluation.specs.NeededLines.{after_all, SameWhereMarked}
use Rattle.evaluation.specs.Stages.{begun, with_stage, with_none, stage_from, next_stage, stages_from}
use Rattle.evaluation.specs.declared.stage.Progress.{Progress}
use Rattle.evaluation.specs.declared.walk.Walk.{Walk}
use Rattle.evaluation.proofs.FoldFacts.{refused_stays}
use Rattle.evaluation.proofs.JudgedFacts.{LeastLaws, next_is}

-- what a needed stage names is needed

pub named_marked : (stages : List ResolvedStage) (target : ℕ) (needed : List Bool) (number : ℕ) (stage : ResolvedStage) → AreNeeded stages target needed → slice_get stages number ≡ Some stage
    → is_marked needed number ≡ true → (to : ℕ) → Contains (stage_origins stage) (StageOf to) → is_marked needed to ≡ true
named_marked stages target needed number stage are there marked to named =
    (are.just to).1 (reached_more (Refers stages) target number to ((are.just number).0 marked) (record { stage = stage; there = there; named = named }))

-- the same stages are needed

leads_same : (marks : List Bool) (stages others : List ResolvedStage) (target : ℕ) → AreNeeded stages target marks → SameWhereMarked marks stages others
    → (path : List ℕ) (from to : ℕ) → is_marked marks from ≡ true → IsPath (Refers stages) from path to → IsPath (Refers others) from path to
leads_same marks stages others target are same [] from to marked leads = leads
leads_same marks stages others target are same (next ∷ path) from to marked leads =
    let refers = leads.0 in
    let on = named_marked stages target marks from refers.stage are refers.there marked next refers.named in
    (record { stage = refers.stage; there = sym (same.same from marked) ∙ refers.there; named = refers.named }, leads_same marks stages others target are same path next to on leads.1)

leads_marked : (marks : List Bool) (stages others : List ResolvedStage) (target : ℕ) → AreNeeded stages target marks → SameWhereMarked marks stages others
    → (path : List ℕ) (from to : ℕ) → is_marked marks from ≡ true → IsPath (Refers others) from path to → is_marked marks to ≡ true
leads_marked marks stages others target are same [] from to marked leads = subst (λ (n : ℕ). is_marked marks n ≡ true) leads marked
leads_marked marks stages others target are same (next ∷ path) from to marked leads =
    let refers = leads.0 in
    let on = named_marked stages target marks from refers.stage are (same.same from marked ∙ refers.there) marked next refers.named in
    leads_marked marks stages others target are same path next to on leads.1

pub marks_same : (stages others : List ResolvedStage) (target : ℕ) (marks : List Bool) → AreNeeded stages target marks → SameWhereMarked marks stages others → AreNeeded others target marks
marks_same stages others target marks are same =
    let first : is_marked marks target ≡ true = (are.just target).1 ([], refl) in
    record {
      long = are.long ∙ same.long;
      just = λ stage. (
        λ marked. (let path = (are.just stage).0 marked in (path.0, leads_same marks stages others target are same path.0 target stage first path.1)),
        λ needs. leads_marked marks stages others target are same needs.0 target stage first needs.1,
      );
    }

-- they are evaluated to the same

pushed : {X : Type 0} (xs : List X) (x : X) → length (xs ++ x ∷ []) ≡ length xs + 1
pushed xs x = length-append xs (x ∷ [])

rows_by : (walk : Walk) (stage : ResolvedStage) (p : Progress) (marked : Bool)
    → length ((if marked then with_stage walk stage p else with_none walk).rows) ≡ length walk.rows + 1
rows_by walk stage p true = pushed walk.rows (Some (record { line = stage.line; base = stage.base; steps = p.steps }))
rows_by walk stage p false = pushed walk.rows None

rows_more : LeastLaws → (args outer : Values) (images : ImagesValue Config) (marks : List Bool) (walk next : Walk) (stage : ResolvedStage)
    → next_stage args outer images marks walk stage ≡ Ok next → length next.rows ≡ length walk.rows + 1
rows_more laws args outer images marks walk next stage e =
    ap (λ (w : Walk). length w.rows) (next_is laws args outer images marks walk next stage e)
    ∙ rows_by walk stage (after_all args outer (begun images walk stage) stage.instructions) (is_marked marks (length walk.rows))

some_same : {X : Type 0} (x y : X) → Some x ≡ Some y → x ≡ y
some_same x y e = cc

first_by : (args outer : Values) (images : ImagesValue Config) (walk : Walk) (stage other : ResolvedStage) (marked : Bool) → (marked ≡ true → stage ≡ other)
    → (if marked then stage_from args outer images walk stage else Ok (with_none walk)) ≡ (if marked then stage_from args outer images walk other else Ok (with_none walk))
first_by args outer images walk stage other true f = ap (stage_from args outer images walk) (f refl)
first_by args outer images walk stage other false f = refl

rest_by : (args outer : Values) (images : ImagesValue Config) (marks : List Bool) (stages others : List ResolvedStage) (result : Result Walk Rejection)
    → ((next : Walk) → result ≡ Ok next → stages_from args outer images marks (Ok next) stages ≡ stages_from args outer images marks (Ok next) others)
    → stages_from args outer images marks result stages ≡ stages_from args outer images marks result others
rest_by args outer images marks stages others (Ok next) f = f next refl
rest_by args outer images marks stages others (Err refusal) f =
    refused_stays (next_stage args outer images marks) refusal stages ∙ sym (refused_stays (next_stage args outer images marks) refusal others)

stages_same : LeastLaws → (args outer : Values) (images : ImagesValue Config) (marks : List Bool) (stages others : List ResolvedStage) (walk : Walk) → length stages ≡ length others
    → ((k n : ℕ) → n ≡ length walk.rows + k → is_marked marks n ≡ true → slice_get stages k ≡ slice_get others k)
    → stages_from args outer images marks (Ok walk) stages ≡ stages_from args outer images marks (Ok walk) others
stages_same laws args outer images marks [] [] walk long same = refl
stages_same laws args outer images marks [] (other ∷ others) walk long same = absurd (omega (arith, long))
stages_same laws args outer images marks (stage ∷ stages) [] walk long same = absurd (omega (arith, long))
stages_same laws args outer images marks (stage ∷ stages) (other ∷ others) walk long same =
    let rest = rest_by args outer images marks stages others (next_stage args outer images marks walk stage)
    (λ next e.
    let more = rows_more laws args outer images marks walk next stage e in
    stages_same laws args outer images marks stages others next (omega (arith, long))
    (λ k n at marked. same (suc k) n (omega (arith, at, more)) marked)) in
    let first = first_by args outer images walk stage other (is_marked marks (length walk.rows)) (λ marked. some_same stage other (same 0 (length walk.rows) (omega arith) marked)) in
    rest ∙ ap (λ (r : Result Walk Rejection). stages_from args outer images marks r others) first

pub evaluated_same : LeastLaws → (args : Values) (images : ImagesValue Config) (marks : List Bool) (table other : TableValue)
    → table.outer ≡ other.outer → SameWhereMarked marks table.stages other.stages → evaluated args images marks table ≡ evaluated args images marks other
evaluated_same laws args images marks table other outer same =
    ap (λ (ds : List Declaration). stages_from args (value_in ds) images marks (Ok no_stage) table.stages) outer
    ∙ stages_same laws args (value_in other.outer) images marks table.stages other.stages no_stage same.long
    (λ k n at marked.
    let from_first : n ≡ 0 + k = at in
    let here : n ≡ k = omega (arith, from_first) in
    same.same k (subst (λ (m : ℕ). is_marked marks m ≡ true) here marked))
