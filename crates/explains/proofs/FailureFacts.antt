-- What a solution says of what a bundle asks for, and what that answers.
use Rattle.std.proofs.Common.{◌≡◌, ℕ, Bool, true, false, List, Option, Some, None, Result, Ok, Err, refl, sym, ap, ◌∙◌, subst, true≢false}
use Rattle.std.specs.Prelude.{IfOk, is_ok}
use Rattle.plain.specs.declared.fault.Fault.{Fault}
use Rattle.plain.specs.declared.fault.Fault.TheVariants.{Because}
use Rattle.expand.specs.declared.reason.Rejection.{Rejection}
use Rattle.trees.specs.declared.cause.Cause.{Cause}
use Rattle.plans.specs.Plan.{PlanValue, problem_of}
use Rattle.plans.specs.Value.{Out}
use Rattle.rows.specs.Rows.{Rows}
use Rattle.lacking.specs.Missing.{missed_source}
use Rattle.lacking.specs.declared.missing.Missed.{Missed}
use Rattle.imageconfig.specs.Reading.{config_in}
use Rattle.imageconfig.specs.declared.config.Config.{Config}
use Rattle.evaluation.specs.declared.evaluated.Evaluated.{Evaluated}
use Rattle.bundle.specs.Reading.{ReadsBundle}
use Rattle.solver.specs.Solution.{IsSolution}
use Rattle.solver.specs.declared.solution.Solution.{Solution}
use Rattle.solver.specs.declared.solution.Solution.TheVariants as solution
use Rattle.bundle.specs.declared.whole.Bundle.{Bundle}
use Rattle.checks.specs.Checked.{IsCheckOf}
use Rattle.reasons.specs.Leaving.{LeavesWord}
use Rattle.reasons.specs.declared.leaving.LeavingLine.{LeavingLine}
use Rattle.checks.specs.Failing.{shown_failure}
use Rattle.checks.specs.Shown.{readable_lines}
use Rattle.checks.specs.declared.checked.Checked.{Checked}
use Rattle.checks.specs.declared.form.Form.TheVariants.{Plain}
use Rattle.build.specs.Meaning.{Asks, Tells}
use Rattle.build.specs.Telling.{IsAsked, status_of, text_of}
use Rattle.answering.specs.declared.status.Status.TheVariants.{Refused}
use Rattle.explains.specs.Explained.{Explains, IsLeftOutBy, ShowsFailure, ShowsMissed, shown_missed}
use Rattle.explains.specs.PrivateFailure.{failure_in, IsAccepted, IsDockerfileOf, IsFailureOf, IsMissedOf}
use Rattle.explains.specs.declared.explaining.Explained.{Explained}

by_solution : (out : Out) (made : Evaluated) (config : Config) (found : Solution) → Tells out (Ok made) (status_of found) (text_of config found)
    → IsFailureOf out made (failure_in found)
by_solution out made config (solution.Built tree) tells = (text_of config (solution.Built tree), tells)
by_solution out made config (solution.Failed vertex place cause) tells = tells

-- the failure of a solution of the plan of what is asked for
pub failure_of : {E : Type 0} (out : Out) (made : Evaluated) (plan : PlanValue Config) (result : Result (Option (ℕ × Cause)) E)
    → ((under : Out) (found : Solution) → IsSolution (problem_of under plan) found → Tells under (Ok made) (status_of found) (text_of plan.config found))
    → IfOk result (λ failure. (found : Solution) × IsSolution (problem_of out plan) found × (failure ≡ failure_in found)) → IfOk result (IsFailureOf out made)
failure_of out made plan (Ok failure) tells has =
    subst (IsFailureOf out made) (sym has.2) (by_solution out made plan.config has.0 (tells out has.0 has.1))
failure_of out made plan (Err memory) tells has = has

-- the Dockerfile of a bundle that was read
pub dockerfile_read : {E : Type 0} (bytes text : List ℕ) (bundle : Bundle Config) (result : Result (List ℕ) E) → ReadsBundle config_in bytes (Ok bundle)
    → text ≡ bundle.dockerfile → IfOk result (λ copied. copied ≡ text) → IfOk result (IsDockerfileOf bytes)
dockerfile_read bytes text bundle (Ok copied) reads same is = (bundle, reads, is ∙ same)
dockerfile_read bytes text bundle (Err memory) reads same is = is

-- a bundle that isn't refused never is
pub never_refused : ((bytes : List ℕ) (one other : Result Evaluated Rejection) → Asks bytes one → Asks bytes other → one ≡ other) → (bytes : List ℕ)
    (fault : Fault Rejection) (refusal : Rejection) → fault ≡ Because refusal → IsAsked bytes (Err fault) → IsAccepted bytes → ⊥
never_refused one bytes fault refusal because asked accepted =
    true≢false (ap is_ok (one bytes (Ok accepted.0) (Err refusal) accepted.1 (subst (λ f. IsAsked bytes (Err f)) because asked)))

-- the source that an instruction of a bundle misses
pub missed_found : {E : Type 0} (bytes : List ℕ) (made : Evaluated) (rows : Rows) (line : ℕ) (cause : Cause) (result : Result (Option Missed) E)
    → Asks bytes (Ok made) → rows ≡ made.rows → IfOk result (λ found. found ≡ missed_source made.sources rows line cause) → IfOk result (IsMissedOf bytes line cause)
missed_found bytes made rows line cause (Ok found) asks same is = (made, asks, is ∙ ap (λ (rows : Rows). missed_source made.sources rows line cause) same)
missed_found bytes made rows line cause (Err memory) asks same is = is

-- a source that is looked for in the ignore file, and one that isn't
pub left_known : (bytes source : List ℕ) (is_path : Bool) (left : Option LeavingLine) → is_path ≡ true → LeavesWord config_in bytes source (Ok left)
    → IsLeftOutBy bytes source is_path left
left_known bytes source true left is leaves = leaves
left_known bytes source false left is leaves = absurd (true≢false (sym is))

pub left_none : (bytes source : List ℕ) (is_path : Bool) → is_path ≡ false → IsLeftOutBy bytes source is_path None
left_none bytes source true is = absurd (true≢false is)
left_none bytes source false is = refl

-- what is shown of an instruction of which no source is known that it misses
pub plain_shown : {E : Type 0} (file bytes : List ℕ) (lines : List (List ℕ)) (line : ℕ) (cause : Cause) (found : Option Missed) (result : Result (List ℕ) E)
    → found ≡ None → IfOk result (λ text. text ≡ shown_failure file lines line cause) → IfOk result (ShowsMissed file bytes lines line cause found)
plain_shown file bytes lines line cause found (Ok text) none is = subst (λ f. ShowsMissed file bytes lines line cause f text) (sym none) is
plain_shown file bytes lines line cause found (Err memory) none is = is

-- what is shown of a COPY that misses this source
pub source_shown : {E : Type 0} (file bytes : List ℕ) (lines : List (List ℕ)) (line : ℕ) (cause : Cause) (found : Option Missed) (here : Missed) (source : List ℕ)
    (left : Option LeavingLine) (result : Result (List ℕ) E) → found ≡ Some here → source ≡ here.source → IsLeftOutBy bytes source here.is_context_path left
    → IfOk result (λ text. text ≡ shown_missed file lines line source left) → IfOk result (ShowsMissed file bytes lines line cause found)
source_shown file bytes lines line cause found here source left (Ok text) some same leaves is =
    subst (λ f. ShowsMissed file bytes lines line cause f text) (sym some) (
      left,
      subst (λ s. IsLeftOutBy bytes s here.is_context_path left) same leaves,
      is ∙ ap (λ s. shown_missed file lines line s left) same,
    )
source_shown file bytes lines line cause found here source left (Err memory) some same leaves is = is

-- what is shown of an instruction that fails
pub failure_shown : {E : Type 0} (file bytes text dockerfile : List ℕ) (line : ℕ) (cause : Cause) (found : Option Missed) (result : Result (List ℕ) E)
    → IsDockerfileOf bytes dockerfile → text ≡ dockerfile → IsMissedOf bytes line cause found
    → IfOk result (ShowsMissed file bytes (readable_lines text) line cause found) → IfOk result (ShowsFailure file bytes line cause)
failure_shown file bytes text dockerfile line cause found (Ok shown) has same misses shows =
    let lines = ap readable_lines (same ∙ has.2) in (
      has.0,
      has.1,
      (
        misses.0,
        misses.1,
        subst (λ f. ShowsMissed file bytes (readable_lines has.0.dockerfile) line cause f shown) misses.2
            (subst (λ (ls : List (List ℕ)). ShowsMissed file bytes ls line cause found shown) lines shows),
      ),
    )
failure_shown file bytes text dockerfile line cause found (Err memory) has same misses shows = shows

-- a bundle that is refused
pub faults_told : {E : Type 0} (file : List ℕ) (out : Out) (bytes : List ℕ) (fault : Fault Rejection) (refusal : Rejection) (result : Result Explained E)
    → fault ≡ Because refusal → IsAsked bytes (Err fault) → IfOk result (λ told. told.status ≡ Refused)
    → IfOk result (λ told. (checked : Checked) × IsCheckOf file bytes Plain checked × (told.text ≡ checked.text))
    → IfOk result (λ told. Explains file out bytes told.status told.text)
faults_told file out bytes fault refusal (Ok told) because asked status text =
    subst (λ s. Explains file out bytes s told.text) (sym status)
    (refusal, record { asked = Err refusal; asks = subst (λ f. IsAsked bytes (Err f)) because asked; tells = refl }, text)
faults_told file out bytes fault refusal (Err memory) because asked status text = status
