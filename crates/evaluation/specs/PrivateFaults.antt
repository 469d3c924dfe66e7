-- Parts of the walk that goes on after a refusal: what each of them answers.
use Rattle.std.specs.Prelude.{◌≡◌, ◌++◌, ℕ, Bool, List, Result, IfOk}
use Rattle.plain.specs.declared.memory.Memory.{Memory}
use Rattle.expand.specs.declared.reason.Rejection.{Rejection}
use Rattle.plans.specs.Images.{ImagesValue}
use Rattle.scopes.specs.Evaluate.{Values}
use Rattle.stages.specs.declared.stage.ResolvedStage.{ResolvedStage}
use Rattle.imageconfig.specs.declared.config.Config.{Config}
use Rattle.evaluation.specs.Evaluated.{no_stage}
use Rattle.evaluation.specs.Faults.{refusals_in, after_judged, refusals_after}
use Rattle.evaluation.specs.PrivateKept.{left_by, opened_from, kept_stage, kept_judged, kept_refusals}
use Rattle.evaluation.specs.declared.faults.Judged.{Judged}
use Rattle.evaluation.specs.declared.opening.Opened.{Opened}
use Rattle.evaluation.specs.declared.walk.Walk.{Walk}

-- what was judged so far, with one stage more, of which this is known
abbrev pub judged_with : Walk → List Rejection → Result Walk Rejection → Judged
judged_with walk faults result = record { walk = after_judged walk result; faults = faults ++ refusals_in result }

-- what judging a needed stage answers that has begun
unfoldable pub IsOpenedJudged : Values → Values → (ℕ → ℕ → Bool) → Opened → List Rejection → ResolvedStage → Result Judged Memory → Type 0
IsOpenedJudged args outer wants begun faults stage result = IfOk result (λ more. more ≡ judged_with begun.walk faults (opened_from args outer wants begun stage))

-- what judging a needed stage answers that doesn't begin with a lost one
unfoldable pub IsNeededJudged : Values → Values → ImagesValue Config → (ℕ → ℕ → Bool) → Judged → ResolvedStage → Result Judged Memory → Type 0
IsNeededJudged args outer images wants judged stage result =
    IfOk result (λ more. more ≡ judged_with (left_by wants judged.walk stage.base) judged.faults (kept_stage args outer images wants judged.walk stage))

-- what judging a stage answers
unfoldable pub IsJudged : Values → Values → ImagesValue Config → List Bool → (ℕ → ℕ → Bool) → Judged → ResolvedStage → Result Judged Memory → Type 0
IsJudged args outer images needed wants judged stage result =
    IfOk result (λ more. more ≡ judged_with (left_by wants judged.walk stage.base) judged.faults (kept_judged args outer images needed wants judged.walk stage))

-- what judging stages one after another answers
unfoldable pub AreJudged : Values → Values → ImagesValue Config → List Bool → (ℕ → ℕ → Bool) → List ResolvedStage → Result (List Rejection) Memory → Type 0
AreJudged args outer images needed wants stages result = IfOk result (λ faults. faults ≡ kept_refusals args outer images needed wants no_stage stages)

-- what judging all stages answers
unfoldable pub AreAllJudged : Values → Values → ImagesValue Config → List Bool → List ResolvedStage → Result (List Rejection) Memory → Type 0
AreAllJudged args outer images needed stages result = IfOk result (λ faults. faults ≡ refusals_after args outer images needed no_stage stages)
