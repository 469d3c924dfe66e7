-- What the states that evaluation comes to have in common, and where each stage ends.
use Rattle.std.specs.Prelude.{◌≡◌, ℕ, Bool, true, false, List, [], ◌∷◌, ◌++◌, Option, Some, None, Result, Ok, Err, length, slice_get, refl, if◌then◌else◌}
use Rattle.std.specs.List.{All}
use Rattle.std.proofs.Common.{subst}
use Rattle.std.proofs.lemmas.Option.{slice_get_within, get_or_from_slice_get}
use Rattle.std.proofs.lemmas.List.Elements.{All-nil, All-push}
use Rattle.plain.specs.Marks.{is_marked}
use Rattle.expand.specs.declared.reason.Rejection.{Rejection}
use Rattle.plain.specs.declared.variable.Variable.{Variable}
use Rattle.plans.specs.Images.{ImagesValue}
use Rattle.instructions.specs.Reason.{reason}
use Rattle.scopes.specs.Evaluate.{Values}
use Rattle.scopes.specs.Scope.{value_in, run_env}
use Rattle.stages.specs.Table.{TableValue}
use Rattle.stages.specs.declared.stage.ResolvedInstruction.{ResolvedInstruction}
use Rattle.stages.specs.declared.stage.ResolvedStage.{ResolvedStage}
use Rattle.imageconfig.specs.Environment.{variables_of}
use Rattle.imageconfig.specs.declared.config.Config.{Config}
use Rattle.evaluation.specs.Evaluated.{no_stage, evaluated}
use Rattle.evaluation.specs.Images.{with_origin, many_codes}
use Rattle.evaluation.specs.Reached.{ComesTo, HaveEnvironments, HasScopesEnvironment}
use Rattle.evaluation.specs.Stages.{with_instruction, next_instruction, instructions_from, begun, with_stage, with_ended, with_none, stage_from, next_stage, stages_from}
use Rattle.evaluation.specs.declared.stage.Progress.{Progress}
use Rattle.evaluation.specs.declared.state.State.{State}
use Rattle.evaluation.specs.declared.walk.Walk.{Walk}
use Rattle.evaluation.proofs.EnvironmentFacts.{EnvironmentLaws, IsAlike, IsEndAlike, alike_after, start_alike, run_sees}
use Rattle.evaluation.proofs.FoldFacts.{went, not_due, refused_or_ok}
use Rattle.evaluation.proofs.ReasonFacts.{goes}

abbrev pub well_of : {X : Type 0} → X → Result X Rejection
well_of x = Ok x

pub same_ok : {X : Type 0} (x y : X) → well_of x ≡ well_of y → x ≡ y
same_ok x y e = cc

-- an instruction and a stage for which nothing is due

pub next_made : (args outer : Values) (p next : Progress) (r : ResolvedInstruction) → next_instruction args outer p r ≡ Ok next → with_instruction args outer p r ≡ next
next_made args outer p next r h = (goes args outer p next r h).is

pub record StageMade (args outer : Values) (images : ImagesValue Config) (walk : Walk) (stage : ResolvedStage) (next : Walk) : Type 0 where
  pub last : Progress
  pub went : instructions_from args outer (Ok (begun images walk stage)) stage.instructions ≡ Ok last
  pub is : with_stage walk stage last ≡ next

ended_made : (args outer : Values) (images : ImagesValue Config) (walk : Walk) (stage : ResolvedStage) (next : Walk) (ended : Result Progress Rejection)
    → instructions_from args outer (Ok (begun images walk stage)) stage.instructions ≡ ended → with_ended walk stage ended ≡ Ok next → StageMade args outer images walk stage next
ended_made args outer images walk stage next (Ok last) is e = record { last = last; went = is; is = same_ok (with_stage walk stage last) next e }
ended_made args outer images walk stage next (Err refusal) is e = absurd (refused_or_ok refusal next e)

pub stage_made : (args outer : Values) (images : ImagesValue Config) (walk : Walk) (stage : ResolvedStage) (next : Walk) → stage_from args outer images walk stage ≡ Ok next
    → StageMade args outer images walk stage next
stage_made args outer images walk stage next e =
    let ended = instructions_from args outer (Ok (begun images walk stage)) stage.instructions in
    ended_made args outer images walk stage next ended refl (not_due (reason (many_codes (with_origin walk.names stage.base)) None) stage.line (with_ended walk stage ended) next e).after

-- the environment

through_alike : EnvironmentLaws → (args outer : Values) (rs : List ResolvedInstruction) (p q : Progress) → instructions_from args outer (Ok p) rs ≡ Ok q → IsAlike p.state → IsAlike q.state
through_alike laws args outer [] p q h is = subst (λ (x : Progress). IsAlike x.state) (same_ok p q h) is
through_alike laws args outer (r ∷ rs) p q h is =
    let step = went (next_instruction args outer) (next_instruction args outer p r) rs q h in
    through_alike laws args outer rs step.next q step.on
    (subst (λ (x : Progress). IsAlike x.state) (next_made args outer p step.next r step.is) (alike_after laws args outer p.state r.instruction.kind is))

next_alike : EnvironmentLaws → (args outer : Values) (images : ImagesValue Config) (walk next : Walk) (stage : ResolvedStage) (marked : Bool) → HaveEnvironments images → All IsEndAlike walk.states
    → (if marked then stage_from args outer images walk stage else Ok (with_none walk)) ≡ Ok next → All IsEndAlike next.states
next_alike laws args outer images walk next stage true environments are e =
    let made = stage_made args outer images walk stage next e in
    let first = begun images walk stage in
    subst (λ (w : Walk). All IsEndAlike w.states) made.is
    (All-push IsEndAlike walk.states (Some made.last.state) are
    (through_alike laws args outer stage.instructions first made.last made.went (start_alike laws images walk.states stage.base environments are)))
next_alike laws args outer images walk next stage false environments are e =
    subst (λ (w : Walk). All IsEndAlike w.states) (same_ok (with_none walk) next e) (All-push IsEndAlike walk.states None are tt)

stages_alike : EnvironmentLaws → (args outer : Values) (images : ImagesValue Config) (needed : List Bool) (stages : List ResolvedStage) (walk last : Walk) → HaveEnvironments images
    → All IsEndAlike walk.states → stages_from args outer images needed (Ok walk) stages ≡ Ok last → All IsEndAlike last.states
stages_alike laws args outer images needed [] walk last environments are h = subst (λ (w : Walk). All IsEndAlike w.states) (same_ok walk last h) are
stages_alike laws args outer images needed (stage ∷ stages) walk last environments are h =
    let step = went (next_stage args outer images needed) (next_stage args outer images needed walk stage) stages last h in
    stages_alike laws args outer images needed stages step.next last environments
    (next_alike laws args outer images walk step.next stage (is_marked needed (length walk.rows)) environments are step.is) step.on

comes_alike : EnvironmentLaws → (args : Values) (images : ImagesValue Config) (needed : List Bool) (table : TableValue) (number : ℕ) (before : List ResolvedInstruction) (state : State)
    → HaveEnvironments images → ComesTo args images needed table number before state → IsAlike state
comes_alike laws args images needed table number before state environments comes =
    let outer = value_in table.outer in
    let are = stages_alike laws args outer images needed comes.earlier no_stage comes.walk environments (All-nil IsEndAlike) comes.walked in
    subst IsAlike comes.is
    (through_alike laws args outer before (begun images comes.walk comes.stage) comes.progress comes.went (start_alike laws images comes.walk.states comes.stage.base environments are))

end_of : (states : List (Option State)) (number : ℕ) (state : State) → All IsEndAlike states → slice_get states number ≡ Some (Some state) → IsAlike state
end_of states number state are e =
    subst IsEndAlike (get_or_from_slice_get states number (Some state) None e) (are number None (slice_get_within states number (Some state) e))

pub comes_same : EnvironmentLaws → (args : Values) (images : ImagesValue Config) (needed : List Bool) (table : TableValue) (number : ℕ) (before : List ResolvedInstruction) (state : State)
    → HaveEnvironments images → ComesTo args images needed table number before state → HasScopesEnvironment state
comes_same laws args images needed table number before state environments comes = (comes_alike laws args images needed table number before state environments comes).same

pub comes_seen : EnvironmentLaws → (args : Values) (images : ImagesValue Config) (needed : List Bool) (table : TableValue) (number : ℕ) (before : List ResolvedInstruction) (state : State)
    → HaveEnvironments images → ComesTo args images needed table number before state → (others : List Variable) × (run_env state.scope ≡ variables_of state.config.env ++ others)
comes_seen laws args images needed table number before state environments comes = run_sees state (comes_alike laws args images needed table number before state environments comes)

pub ends_same : EnvironmentLaws → (args : Values) (images : ImagesValue Config) (needed : List Bool) (table : TableValue) (walk : Walk) (number : ℕ) (state : State)
    → HaveEnvironments images → evaluated args images needed table ≡ Ok walk → slice_get walk.states number ≡ Some (Some state) → HasScopesEnvironment state
ends_same laws args images needed table walk number state environments e there =
    (end_of walk.states number state (stages_alike laws args (value_in table.outer) images needed table.stages no_stage walk environments (All-nil IsEndAlike) e) there).same
