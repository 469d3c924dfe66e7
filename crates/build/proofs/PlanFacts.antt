-- Whatever answers the plan of what a bundle asks for, or what that plan is shrunk to, tells what that gives.
use Rattle.std.proofs.Common.{◌≡◌, Ok, Err, refl, ap, ◌∙◌, subst}
use Rattle.std.specs.FinMap.{entries}
use Rattle.plans.specs.Plan.{PlanValue, IsPlan, NeedsAll, problem_of}
use Rattle.plans.specs.Value.{Out}
use Rattle.imageconfig.specs.Writing.{config_data}
use Rattle.imageconfig.specs.declared.config.Config.{Config}
use Rattle.evaluation.specs.declared.evaluated.Evaluated.{Evaluated}
use Rattle.rows.specs.Order.{IsInOrder, NeedsAllStages}
use Rattle.lowering.specs.Means.{Means, StandsFor, AreLined, world}
use Rattle.lowering.specs.Order.{LinesInOrder}
use Rattle.lowering.proofs.NeededFacts.{stands_needed}
use Rattle.lowering.proofs.OrderFacts.{stands_in_order, in_order_least}
use Rattle.lowering.specs.Outcome.{IsOutcome}
use Rattle.rewrite.specs.Pruned.{KeepsMeaning}
use Rattle.rewrite.proofs.LawFacts.{built_is, kept_as_is}
use Rattle.rewrite.proofs.OrderFacts.{first_is}
use Rattle.solver.specs.Solution.{IsSolution}
use Rattle.solver.specs.declared.solution.Solution.{Solution}
use Rattle.solver.specs.declared.solution.Solution.TheVariants as solution
use Rattle.bundle.specs.Answer.{built_text}
use Rattle.build.specs.Meaning.{Tells}
use Rattle.build.specs.Telling.{status_of, text_of}

pub tells : (out : Out) (plan new : PlanValue Config) (made : Evaluated) (s : Solution)
    → Means plan made.rows made.target → StandsFor plan made.rows made.target → IsInOrder made.rows → NeedsAllStages made.rows made.target → plan.config ≡ made.config → plan.sources ≡ made.sources → IsPlan new
    → (LinesInOrder plan.graph → LinesInOrder new.graph) → (AreLined plan.graph → AreLined new.graph) → KeepsMeaning plan new → NeedsAll (problem_of out new) → IsSolution (problem_of out new) s
    → Tells out (Ok made) (status_of s) (text_of new.config s)
tells out plan new made (solution.Built tree) means stands in_order all configs sources is orders lines keeps needed a = (
  tree,
  subst (λ s. IsOutcome (world out s) made.rows made.target (Ok tree)) sources (built_is out plan new made.rows made.target tree means keeps a),
  ap (λ c. built_text (config_data c) (entries tree)) (keeps.config ∙ configs),
)
tells out plan new made (solution.Failed vertex place cause) means stands in_order all configs sources is orders lines keeps needed a =
    let lined = lines stands.lined in
    let ordered = orders (stands_in_order plan made.rows made.target stands in_order) in
    let outcome : IsOutcome (world out plan.sources) made.rows made.target (Err (place, cause)) =
    first_is out plan new made.rows made.target vertex place cause means in_order (stands_needed out plan made.rows made.target stands all) lined is keeps
    needed a.value a.least (a.first needed (in_order_least out new ordered lined)) in
    (place, cause, subst (λ s. IsOutcome (world out s) made.rows made.target (Err (place, cause))) sources outcome, refl)

-- the plan as it was lowered
pub tells_as_is : (out : Out) (plan : PlanValue Config) (made : Evaluated) (s : Solution)
    → Means plan made.rows made.target → StandsFor plan made.rows made.target → IsInOrder made.rows → NeedsAllStages made.rows made.target → plan.config ≡ made.config → plan.sources ≡ made.sources → IsPlan plan
    → IsSolution (problem_of out plan) s → Tells out (Ok made) (status_of s) (text_of plan.config s)
tells_as_is out plan made s means stands in_order all configs sources is =
    tells out plan plan made s means stands in_order all configs sources is (λ orders. orders) (λ lined. lined) (kept_as_is plan)
    (stands_needed out plan made.rows made.target stands all)
