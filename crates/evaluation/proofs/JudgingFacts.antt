-- The walk that goes on after a refusal: a stage after those before it, and all stages one after another.
use Rattle.std.specs.Prelude.{◌≡◌, ℕ, Bool, true, false, List, [], ◌∷◌, ◌++◌, Option, Some, Result, Ok, Err, length, refl, IfOk, if◌then◌else◌}
use Rattle.std.proofs.Common.{sym, ◌∙◌, ap, subst, arith, append-nil, append_assoc}
use Rattle.std.proofs.lemmas.Bool.{true≢false}
use Rattle.plain.specs.Marks.{is_marked}
use Rattle.plain.specs.declared.fault.Fault.{Fault}
use Rattle.plain.specs.declared.fault.Fault.TheVariants.{Because}
use Rattle.plain.specs.declared.memory.Memory.{Memory}
use Rattle.expand.specs.declared.reason.Rejection.{Rejection}
use Rattle.plans.specs.Images.{ImagesValue}
use Rattle.rows.specs.declared.row.Stage.{Stage}
use Rattle.scopes.specs.Evaluate.{Values}
use Rattle.scopes.specs.Scope.{value_in}
use Rattle.scopes.specs.declared.declaration.Declaration.{Declaration}
use Rattle.stages.specs.Needed.{AreNeeded}
use Rattle.stages.specs.Table.{TableValue}
use Rattle.stages.specs.declared.stage.ResolvedInstruction.{ResolvedInstruction}
use Rattle.stages.specs.declared.stage.ResolvedStage.{ResolvedStage}
use Rattle.imageconfig.specs.declared.config.Config.{Config}
use Rattle.evaluation.specs.Evaluated.{no_stage}
use Rattle.evaluation.specs.Faults.{is_base_lost, refusals_in, after_judged, with_refused, refusals_after, evaluation_refusals, AreTableFaults}
use Rattle.evaluation.specs.Images.{ImageNames}
use Rattle.evaluation.specs.PrivateFaults.{judged_with, IsOpenedJudged, IsNeededJudged, IsJudged, AreJudged, AreAllJudged}
use Rattle.evaluation.specs.PrivateKept.{TellsWanted, opened, left_by, state_if, opened_from, kept_stage, kept_next, kept_judged, kept_refusals}
use Rattle.evaluation.specs.PrivateWalk.{IsEnded, IsWalk, IsOpenedAdded}
use Rattle.evaluation.specs.Stages.{with_none}
use Rattle.evaluation.specs.declared.faults.Judged.{Judged}
use Rattle.evaluation.specs.declared.opening.Opened.{Opened}
use Rattle.evaluation.specs.declared.stage.Progress.{Progress}
use Rattle.evaluation.specs.declared.state.State.{State}
use Rattle.evaluation.specs.declared.walk.Walk.{Walk}
use Rattle.evaluation.proofs.ReachedFacts.{same_ok}
use Rattle.evaluation.proofs.WalkFacts.{added_put, added_reported}
use Rattle.evaluation.proofs.WantedFacts.{refusals_alike}

abbrev judged_of : Walk → List Rejection → Judged
judged_of walk faults = record { walk = walk; faults = faults }

-- a needed stage

pub stage_accepted : (rows : List (Option Stage)) (states : List (Option State)) (names : ImageNames) (walk : Walk) (faults : List Rejection) → IsWalk rows states names (Ok walk)
    → judged_of walk faults ≡ judged_of (record { rows = rows; states = states; names = names }) faults
unfolding IsWalk
stage_accepted rows states names walk faults h =
    ap (λ (w : Walk). judged_of w faults) (sym (same_ok (record { rows = rows; states = states; names = names }) walk h))

-- what is left of the stages where one more ends
abbrev ended_with : Bool → Walk → ResolvedStage → Progress → Walk
ended_with is_kept walk stage p = record {
  rows = walk.rows ++ Some (record { line = stage.line; base = stage.base; steps = p.steps }) ∷ [];
  states = walk.states ++ state_if is_kept p.state ∷ [];
  names = p.names;
}

accepted_by : (args outer : Values) (wants : ℕ → ℕ → Bool) (begun : Opened) (faults : List Rejection) (stage : ResolvedStage) (walk : Walk) (result : Result Judged Memory)
    → opened_from args outer wants begun stage ≡ Ok walk → IfOk result (λ more. more ≡ judged_of walk faults)
    → IsOpenedJudged args outer wants begun faults stage result
unfolding IsOpenedJudged
accepted_by args outer wants begun faults stage walk (Ok more) e is =
    is ∙ (ap (judged_of walk) (sym (append-nil faults)) ∙ ap (judged_with begun.walk faults) (sym e))
accepted_by args outer wants begun faults stage walk (Err memory) e is = tt

went_well : (args outer : Values) (wants : ℕ → ℕ → Bool) (begun : Opened) (stage : ResolvedStage) (rs : List ResolvedInstruction) (p : Progress) (number : ℕ) (is_kept : Bool)
    → rs ≡ stage.instructions → number ≡ length begun.walk.rows → is_kept ≡ wants number number → IsEnded args outer begun.state begun.walk.names stage.line stage.base rs (Ok p)
    → opened_from args outer wants begun stage ≡ Ok (ended_with is_kept begun.walk stage p)
unfolding IsOpenedAdded IsWalk
went_well args outer wants begun stage rs p number is_kept same at kept ended =
    added_put args outer wants begun stage rs p number is_kept (Ok (ended_with is_kept begun.walk stage p)) same at kept ended refl

pub opened_accepted : (args outer : Values) (wants : ℕ → ℕ → Bool) (begun : Opened) (faults : List Rejection) (stage : ResolvedStage) (rs : List ResolvedInstruction) (p : Progress) (number : ℕ) (is_kept : Bool)
    (result : Result Judged Memory) → rs ≡ stage.instructions → number ≡ length begun.walk.rows → is_kept ≡ wants number number
    → IsEnded args outer begun.state begun.walk.names stage.line stage.base rs (Ok p)
    → IfOk result (λ more. more ≡ judged_of (ended_with is_kept begun.walk stage p) faults) → IsOpenedJudged args outer wants begun faults stage result
opened_accepted args outer wants begun faults stage rs p number is_kept result same at kept ended is =
    accepted_by args outer wants begun faults stage (ended_with is_kept begun.walk stage p) result
    (went_well args outer wants begun stage rs p number is_kept same at kept ended) is

refused_by : (args outer : Values) (wants : ℕ → ℕ → Bool) (begun : Opened) (faults : List Rejection) (stage : ResolvedStage) (refusal : Rejection) (result : Result Judged Memory)
    → opened_from args outer wants begun stage ≡ Err refusal → IfOk result (λ more. more ≡ judged_of (with_refused begun.walk) (faults ++ refusal ∷ []))
    → IsOpenedJudged args outer wants begun faults stage result
unfolding IsOpenedJudged
refused_by args outer wants begun faults stage refusal (Ok more) e is = is ∙ ap (judged_with begun.walk faults) (sym e)
refused_by args outer wants begun faults stage refusal (Err memory) e is = tt

went_wrong : (args outer : Values) (wants : ℕ → ℕ → Bool) (begun : Opened) (stage : ResolvedStage) (rs : List ResolvedInstruction) (fault : Fault Rejection) (refusal : Rejection)
    → fault ≡ Because refusal → rs ≡ stage.instructions → IsEnded args outer begun.state begun.walk.names stage.line stage.base rs (Err fault)
    → opened_from args outer wants begun stage ≡ Err refusal
unfolding IsOpenedAdded
went_wrong args outer wants begun stage rs fault refusal is same ended =
    added_reported args outer wants begun stage rs (Because refusal) same
    (subst (λ (f : Fault Rejection). IsEnded args outer begun.state begun.walk.names stage.line stage.base rs (Err f)) is ended)

pub opened_refused : (args outer : Values) (wants : ℕ → ℕ → Bool) (begun : Opened) (faults : List Rejection) (stage : ResolvedStage) (rs : List ResolvedInstruction) (fault : Fault Rejection)
    (refusal : Rejection) (result : Result Judged Memory) → fault ≡ Because refusal → rs ≡ stage.instructions
    → IsEnded args outer begun.state begun.walk.names stage.line stage.base rs (Err fault)
    → IfOk result (λ more. more ≡ judged_of (with_refused begun.walk) (faults ++ refusal ∷ [])) → IsOpenedJudged args outer wants begun faults stage result
opened_refused args outer wants begun faults stage rs fault refusal result e same ended is =
    refused_by args outer wants begun faults stage refusal result (went_wrong args outer wants begun stage rs fault refusal e same ended) is

pub opened_none : (args outer : Values) (wants : ℕ → ℕ → Bool) (begun : Opened) (faults : List Rejection) (stage : ResolvedStage) (memory : Memory)
    → IsOpenedJudged args outer wants begun faults stage (Err memory)
unfolding IsOpenedJudged
opened_none args outer wants begun faults stage memory = tt

pub needed_judged : (args outer : Values) (images : ImagesValue Config) (wants : ℕ → ℕ → Bool) (judged : Judged) (begun : Opened) (stage : ResolvedStage) (result : Result Judged Memory)
    → begun ≡ opened images wants judged.walk stage.base → IsOpenedJudged args outer wants begun judged.faults stage result → IsNeededJudged args outer images wants judged stage result
unfolding IsOpenedJudged IsNeededJudged
needed_judged args outer images wants judged begun stage result is h =
    subst (λ (x : Opened). IfOk result (λ more. more ≡ judged_with x.walk judged.faults (opened_from args outer wants x stage))) is h

pub needed_none : (args outer : Values) (images : ImagesValue Config) (wants : ℕ → ℕ → Bool) (judged : Judged) (stage : ResolvedStage) (memory : Memory)
    → IsNeededJudged args outer images wants judged stage (Err memory)
unfolding IsNeededJudged
needed_none args outer images wants judged stage memory = tt

-- a stage

left_out_by : (args outer : Values) (images : ImagesValue Config) (needed : List Bool) (wants : ℕ → ℕ → Bool) (judged : Judged) (stage : ResolvedStage) (result : Result Judged Memory)
    → kept_judged args outer images needed wants judged.walk stage ≡ Ok (with_none judged.walk) → IfOk result (λ more. more ≡ judged_of (with_none judged.walk) judged.faults)
    → IsJudged args outer images needed wants judged stage result
unfolding IsJudged
left_out_by args outer images needed wants judged stage (Ok more) e is =
    is ∙ (ap (judged_of (with_none judged.walk)) (sym (append-nil judged.faults)) ∙ ap (judged_with (left_by wants judged.walk stage.base) judged.faults) (sym e))
left_out_by args outer images needed wants judged stage (Err memory) e is = tt

first_case : {X : Type 0} (b : Bool) (x y : X) → b ≡ true → (if b then x else y) ≡ x
first_case true x y e = refl
first_case false x y e = absurd (true≢false (sym e))

second_case : {X : Type 0} (b : Bool) (x y : X) → b ≡ false → (if b then x else y) ≡ y
second_case true x y e = absurd (true≢false e)
second_case false x y e = refl

abbrev kept_out : Walk → Result Walk Rejection
kept_out walk = Ok (with_none walk)

pub judged_lost : (args outer : Values) (images : ImagesValue Config) (needed : List Bool) (wants : ℕ → ℕ → Bool) (judged : Judged) (stage : ResolvedStage) (states : List (Option State)) (lost : Bool) (result : Result Judged Memory)
    → states ≡ judged.walk.states → lost ≡ is_base_lost needed states stage.base → lost ≡ true
    → IfOk result (λ more. more ≡ judged_of (with_none judged.walk) judged.faults) → IsJudged args outer images needed wants judged stage result
judged_lost args outer images needed wants judged stage states lost result same says is more =
    let here : is_base_lost needed judged.walk.states stage.base ≡ true = ap (λ (ss : List (Option State)). is_base_lost needed ss stage.base) (sym same) ∙ (sym says ∙ is) in
    left_out_by args outer images needed wants judged stage result
    (first_case (is_base_lost needed judged.walk.states stage.base) (kept_out judged.walk) (kept_next args outer images needed wants judged.walk stage) here) more

-- a stage that doesn't begin with a lost one
in_turn : (args outer : Values) (images : ImagesValue Config) (needed : List Bool) (wants : ℕ → ℕ → Bool) (walk : Walk) (stage : ResolvedStage) (states : List (Option State)) (lost : Bool)
    → states ≡ walk.states → lost ≡ is_base_lost needed states stage.base → lost ≡ false
    → kept_judged args outer images needed wants walk stage ≡ kept_next args outer images needed wants walk stage
in_turn args outer images needed wants walk stage states lost same says is =
    let here : is_base_lost needed walk.states stage.base ≡ false = ap (λ (ss : List (Option State)). is_base_lost needed ss stage.base) (sym same) ∙ (sym says ∙ is) in
    second_case (is_base_lost needed walk.states stage.base) (kept_out walk) (kept_next args outer images needed wants walk stage) here

judged_as : (args outer : Values) (images : ImagesValue Config) (needed : List Bool) (wants : ℕ → ℕ → Bool) (judged : Judged) (stage : ResolvedStage) (result : Result Judged Memory)
    → kept_judged args outer images needed wants judged.walk stage ≡ kept_stage args outer images wants judged.walk stage
    → IsNeededJudged args outer images wants judged stage result → IsJudged args outer images needed wants judged stage result
unfolding IsNeededJudged IsJudged
judged_as args outer images needed wants judged stage (Ok more) e is = is ∙ ap (judged_with (left_by wants judged.walk stage.base) judged.faults) (sym e)
judged_as args outer images needed wants judged stage (Err memory) e is = tt

pub judged_needed : (args outer : Values) (images : ImagesValue Config) (needed : List Bool) (wants : ℕ → ℕ → Bool) (judged : Judged) (stage : ResolvedStage) (states : List (Option State)) (lost marked : Bool) (long : ℕ)
    (result : Result Judged Memory) → states ≡ judged.walk.states → lost ≡ is_base_lost needed states stage.base → lost ≡ false
    → long ≡ length judged.walk.rows → marked ≡ is_marked needed long → marked ≡ true
    → IsNeededJudged args outer images wants judged stage result → IsJudged args outer images needed wants judged stage result
judged_needed args outer images needed wants judged stage states lost marked long result same says is at says_marked is_marked_true h =
    let here : is_marked needed (length judged.walk.rows) ≡ true = ap (is_marked needed) (sym at) ∙ (sym says_marked ∙ is_marked_true) in
    judged_as args outer images needed wants judged stage result
    (in_turn args outer images needed wants judged.walk stage states lost same says is
    ∙ first_case (is_marked needed (length judged.walk.rows)) (kept_stage args outer images wants judged.walk stage) (kept_out judged.walk) here) h

pub judged_unneeded : (args outer : Values) (images : ImagesValue Config) (needed : List Bool) (wants : ℕ → ℕ → Bool) (judged : Judged) (stage : ResolvedStage) (states : List (Option State)) (lost marked : Bool) (long : ℕ)
    (result : Result Judged Memory) → states ≡ judged.walk.states → lost ≡ is_base_lost needed states stage.base → lost ≡ false
    → long ≡ length judged.walk.rows → marked ≡ is_marked needed long → marked ≡ false
    → IfOk result (λ more. more ≡ judged_of (with_none judged.walk) judged.faults) → IsJudged args outer images needed wants judged stage result
judged_unneeded args outer images needed wants judged stage states lost marked long result same says is at says_marked is_marked_false more =
    let here : is_marked needed (length judged.walk.rows) ≡ false = ap (is_marked needed) (sym at) ∙ (sym says_marked ∙ is_marked_false) in
    left_out_by args outer images needed wants judged stage result
    (in_turn args outer images needed wants judged.walk stage states lost same says is
    ∙ second_case (is_marked needed (length judged.walk.rows)) (kept_stage args outer images wants judged.walk stage) (kept_out judged.walk) here) more

-- all stages

-- how far the loop has come: what was listed, and then what is still to be listed, are all refusals
unfoldable pub JudgedSoFar : Values → Values → ImagesValue Config → List Bool → (ℕ → ℕ → Bool) → List ResolvedStage → List ResolvedStage → Judged → Type 0
JudgedSoFar args outer images needed wants all rest now =
    (before : List ResolvedStage) × ((all ≡ before ++ rest)
    × (now.faults ++ kept_refusals args outer images needed wants now.walk rest ≡ kept_refusals args outer images needed wants no_stage all))

pub judged_first : (args outer : Values) (images : ImagesValue Config) (needed : List Bool) (wants : ℕ → ℕ → Bool) (all : List ResolvedStage) (first : Judged)
    → first ≡ record { walk = no_stage; faults = [] } → JudgedSoFar args outer images needed wants all all first
unfolding JudgedSoFar
judged_first args outer images needed wants all first is =
    ([], (refl, ap (λ (j : Judged). j.faults ++ kept_refusals args outer images needed wants j.walk all) is))

pub judged_more : (args outer : Values) (images : ImagesValue Config) (needed : List Bool) (wants : ℕ → ℕ → Bool) (all rest left : List ResolvedStage) (stage : ResolvedStage) (now more : Judged)
    → JudgedSoFar args outer images needed wants all rest now → rest ≡ stage ∷ left → IsJudged args outer images needed wants now stage (Ok more)
    → JudgedSoFar args outer images needed wants all left more
unfolding JudgedSoFar IsJudged
judged_more args outer images needed wants all rest left stage now more far is made =
    let judged = kept_judged args outer images needed wants now.walk stage in
    let later = kept_refusals args outer images needed wants (after_judged (left_by wants now.walk stage.base) judged) left in (
      far.0 ++ stage ∷ [],
      (
        far.1.0 ∙ (ap (λ (xs : List ResolvedStage). far.0 ++ xs) is ∙ sym (append_assoc far.0 (stage ∷ []) left)),
        ap (λ (j : Judged). j.faults ++ kept_refusals args outer images needed wants j.walk left) made
            ∙ (append_assoc now.faults (refusals_in judged) later
            ∙ (ap (λ (xs : List ResolvedStage). now.faults ++ kept_refusals args outer images needed wants now.walk xs) (sym is) ∙ far.1.1)),
      ),
    )

pub judged_none : (args outer : Values) (images : ImagesValue Config) (needed : List Bool) (wants : ℕ → ℕ → Bool) (whole : List ResolvedStage) (memory : Memory)
    → AreJudged args outer images needed wants whole (Err memory)
unfolding AreJudged
judged_none args outer images needed wants whole memory = tt

over_by : (args outer : Values) (images : ImagesValue Config) (needed : List Bool) (wants : ℕ → ℕ → Bool) (rest : List ResolvedStage) (now : Judged) (told : List Rejection)
    → now.faults ++ kept_refusals args outer images needed wants now.walk rest ≡ told → length rest ≡ 0 → now.faults ≡ told
over_by args outer images needed wants [] now told e over = sym (append-nil now.faults) ∙ e
over_by args outer images needed wants (stage ∷ rest) now told e over = absurd (omega (arith, over))

pub judged_all : (args outer : Values) (images : ImagesValue Config) (needed : List Bool) (wants : ℕ → ℕ → Bool) (all rest whole : List ResolvedStage) (now : Judged)
    → JudgedSoFar args outer images needed wants all rest now → length rest ≡ 0 → all ≡ whole → AreJudged args outer images needed wants whole (Ok now.faults)
unfolding JudgedSoFar AreJudged
judged_all args outer images needed wants all rest whole now far over same =
    over_by args outer images needed wants rest now (kept_refusals args outer images needed wants no_stage all) far.1.1 over
    ∙ ap (kept_refusals args outer images needed wants no_stage) same

-- what is kept is enough

pub all_judged : (args outer : Values) (images : ImagesValue Config) (needed : List Bool) (wants : ℕ → ℕ → Bool) (target : ℕ) (shown stages : List ResolvedStage) (result : Result (List Rejection) Memory)
    → shown ≡ stages → TellsWanted needed shown target wants → AreJudged args outer images needed wants stages result → AreAllJudged args outer images needed stages result
unfolding AreJudged AreAllJudged
all_judged args outer images needed wants target shown stages (Ok faults) same tells h =
    h ∙ refusals_alike args outer images wants needed stages target (subst (λ (ss : List ResolvedStage). TellsWanted needed ss target wants) same tells)
all_judged args outer images needed wants target shown stages (Err memory) same tells h = tt

pub all_judged_none : (args outer : Values) (images : ImagesValue Config) (needed : List Bool) (stages : List ResolvedStage) (memory : Memory) → AreAllJudged args outer images needed stages (Err memory)
unfolding AreAllJudged
all_judged_none args outer images needed stages memory = tt

-- a table

pub table_judged : (args : Values) (images : ImagesValue Config) (table : TableValue) (outer : List Declaration) (stages : List ResolvedStage) (needed : List Bool) (result : Result (List Rejection) Memory)
    → outer ≡ table.outer → stages ≡ table.stages → AreNeeded table.stages table.target needed → AreAllJudged args (value_in outer) images needed stages result
    → IfOk result (λ faults. AreTableFaults images args table faults)
unfolding AreAllJudged evaluation_refusals
table_judged args images table outer stages needed (Ok faults) same_outer same are judged = (
  needed,
  are,
  judged ∙ (ap (λ (ds : List Declaration). refusals_after args (value_in ds) images needed no_stage stages) same_outer
      ∙ ap (refusals_after args (value_in table.outer) images needed no_stage) same),
)
table_judged args images table outer stages needed (Err memory) same_outer same are judged = tt
