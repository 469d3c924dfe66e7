-- The line that is told of a bundle tells what it asks for.
use Rattle.std.proofs.Common.{◌≡◌, ℕ, List, Result, Ok, Err, refl, sym, ap, ◌∙◌, subst}
use Rattle.expand.specs.declared.reason.Rejection.{Rejection}
use Rattle.counted.specs.Edges.{line_of}
use Rattle.plans.specs.Plan.{PlanValue, problem_of}
use Rattle.plans.specs.Value.{Out}
use Rattle.imageconfig.specs.declared.config.Config.{Config}
use Rattle.solver.specs.Solution.{IsSolution}
use Rattle.solver.specs.declared.solution.Solution.{Solution}
use Rattle.evaluation.specs.declared.evaluated.Evaluated.{Evaluated}
use Rattle.bundle.specs.Answer.{refused_text}
use Rattle.answering.specs.Told.{TellsText}
use Rattle.answering.specs.declared.status.Status.TheVariants.{Refused}
use Rattle.answering.specs.declared.told.Told.{Told}
use Rattle.build.specs.Meaning.{Asks, Tells}
use Rattle.build.specs.PrivateTelling.{TellsSolution, TellsPlan, TellsAsked, TellsBundle}
use Rattle.build.specs.Telling.{status_of, text_of}

-- a line that tells a solution tells its plan
pub plan_told : (out : Out) (plan : PlanValue Config) (config : Config) (solution : Solution) (told : Told) → IsSolution (problem_of out plan) solution → config ≡ plan.config
    → TellsSolution config solution told → TellsPlan out plan told
plan_told out plan config solution told is same tells = (solution, is, tells.0, tells.1 ∙ ap (λ c. line_of (text_of c solution)) same)

-- where each solution of a plan tells what is asked for, a line that tells the plan does
pub asked_told : (out : Out) (made : Evaluated) (plan : PlanValue Config) (told : Told)
    → ((solution : Solution) → IsSolution (problem_of out plan) solution → Tells out (Ok made) (status_of solution) (text_of plan.config solution))
    → TellsPlan out plan told → TellsAsked out (Ok made) told
asked_told out made plan told tells is =
    (text_of plan.config is.0, subst (λ s. Tells out (Ok made) s (text_of plan.config is.0)) (sym is.2) (tells is.0 is.1), is.3)

-- what tells what a bundle asks for is an answer to it
pub bundle_told : (bytes : List ℕ) (out : Out) (asked : Result Evaluated Rejection) (told : Told) → Asks bytes asked → TellsAsked out asked told → TellsBundle bytes out told
bundle_told bytes out asked told asks tells = (tells.0, record { asked = asked; asks = asks; tells = tells.1 }, tells.2)

-- a refusal that is told
pub refusal_told : (bytes : List ℕ) (out : Out) (refusal : Rejection) (told : Told) → Asks bytes (Err refusal) → TellsText Refused (refused_text refusal) told → TellsBundle bytes out told
refusal_told bytes out refusal told asks is =
    bundle_told bytes out (Err refusal) told asks (refused_text refusal, subst (λ s. Tells out (Err refusal) s (refused_text refusal)) (sym is.0) refl, is.1)
