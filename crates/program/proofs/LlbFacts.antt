-- What BuildKit is told of a bundle.
use Rattle.std.proofs.Common.{◌≡◌, ℕ, List, Result, Ok, Err, refl, sym, ap, ◌∙◌, subst}
use Rattle.std.specs.Prelude.{IfOk}
use Rattle.expand.specs.declared.reason.Rejection.{Rejection}
use Rattle.plain.specs.declared.fault.Fault.{Fault}
use Rattle.plain.specs.declared.fault.Fault.TheVariants.{Because}
use Rattle.counted.specs.Edges.{line_of}
use Rattle.command.specs.declared.task.LlbOptions.{LlbOptions}
use Rattle.imageconfig.specs.declared.config.Config.{Config}
use Rattle.plans.specs.Plan.{PlanValue, IsPlan, vertex_value}
use Rattle.plans.specs.Value.{Out, value_of, tree_of}
use Rattle.evaluation.specs.declared.evaluated.Evaluated.{Evaluated}
use Rattle.lowering.specs.Means.{Means, StandsFor, world}
use Rattle.lowering.specs.Meaning.{tree_of_stage}
use Rattle.rewrite.specs.Flat.{IsFlattened}
use Rattle.rewrite.specs.Pruned.{IsPruned, KeepsMeaning}
use Rattle.rewrite.proofs.LawFacts.{kept_on}
use Rattle.drawing.specs.Drawn.{IsSimplified}
use Rattle.exported.specs.declared.fault.Obstacle.{Obstacle}
use Rattle.exported.specs.declared.fault.Obstacle.TheVariants as way
use Rattle.bundle.specs.Answer.{refused_text}
use Rattle.answering.specs.declared.status.Status.TheVariants.{Refused}
use Rattle.program.specs.declared.fault.TellFault.{TellFault}
use Rattle.program.specs.declared.fault.TellFault.TheVariants.{Memory, Device, Clash, Unspeakable}
use Rattle.build.specs.Meaning.{Asks}
use Rattle.build.specs.Telling.{IsAsked}
use Rattle.program.specs.declared.exporting.Beside.{Beside}
use Rattle.program.specs.declared.told.Told.{Told}
use Rattle.program.specs.Llb.{fault_of, HasObstacle, IsBeside, IsDrawnPlan, TellsLlb}
use Rattle.program.specs.PrivateLlb.{IsFileTold, IsLlbTold, IsPlanTold}

-- ---- the plan

-- what pruning leaves of a flattened plan
pub simplified : {E : Type 0} (plan flat : PlanValue Config) (result : Result (PlanValue Config) E) → IsFlattened plan flat → IfOk result (IsPruned flat)
    → IfOk result (IsSimplified plan)
simplified plan flat (Ok simple) flattened pruned = record { flat = flat; flattened = flattened; pruned = pruned }
simplified plan flat (Err memory) flattened pruned = pruned

pub means_on : {E : Type 0} (plan flat : PlanValue Config) (result : Result (PlanValue Config) E) → KeepsMeaning plan flat
    → IfOk result (KeepsMeaning flat) → IfOk result (KeepsMeaning plan)
means_on plan flat (Ok simple) one two = kept_on plan flat simple one two
means_on plan flat (Err memory) one two = two

-- it has the target's tree
tree_is : (made : Evaluated) (plan simple : PlanValue Config) → Means plan made.rows made.target → plan.sources ≡ made.sources → KeepsMeaning plan simple
    → (out : Out) → tree_of (value_of out made.sources simple.graph.vertices simple.target) ≡ tree_of_stage (world out made.sources) made.rows made.target
unfolding vertex_value
tree_is made plan simple means sources keeps out =
    ap (λ s. tree_of (value_of out s simple.graph.vertices simple.target)) (sym sources)
    ∙ ap (λ s. tree_of (value_of out s simple.graph.vertices simple.target)) (sym keeps.sources)
    ∙ ap tree_of (keeps.last out)
    ∙ means.tree out
    ∙ ap (λ s. tree_of_stage (world out s) made.rows made.target) sources

pub drawn : {E : Type 0} (made : Evaluated) (plan : PlanValue Config) (result : Result (PlanValue Config) E) → IsPlan plan
    → Means plan made.rows made.target → StandsFor plan made.rows made.target → plan.sources ≡ made.sources
    → IfOk result (IsSimplified plan) → IfOk result (KeepsMeaning plan) → IfOk result (IsDrawnPlan made)
drawn made plan (Ok simple) is means stands sources simple_is keeps = record {
  plan = plan;
  is = is;
  stands = stands;
  simplified = simple_is;
  tree = tree_is made plan simple means sources keeps;
}
drawn made plan (Err memory) is means stands sources simple_is keeps = keeps

-- ---- what is told

-- a plan has no definition
stopped : (options : LlbOptions) (made : Evaluated) (beside : Beside) (plan : PlanValue Config) (obstacle : Obstacle) (fault : TellFault) → fault_of obstacle ≡ fault
    → IsDrawnPlan made plan → IsPlanTold options plan beside (Err (Because obstacle)) → HasObstacle options fault made beside
stopped options made beside plan obstacle fault of is told = record { plan = plan; drawn = is; obstacle = obstacle; is = of; told = told }

pub obstacle_told : (options : LlbOptions) (made : Evaluated) (beside : Beside) (plan : PlanValue Config) (obstacle : Obstacle) (fault : TellFault) → fault ≡ fault_of obstacle
    → IsDrawnPlan made plan → IsPlanTold options plan beside (Err (Because obstacle)) → IsFileTold options made beside (Err fault)
obstacle_told options made beside plan (way.Unspeakable vertex) fault of is told =
    subst (λ f. IsFileTold options made beside (Err f)) (sym of) (stopped options made beside plan (way.Unspeakable vertex) Unspeakable refl is told)
obstacle_told options made beside plan (way.Clash vertex) fault of is told =
    subst (λ f. IsFileTold options made beside (Err f)) (sym of) (stopped options made beside plan (way.Clash vertex) Clash refl is told)

-- what is told of a file's stages is told of the bundle that asks for them
pub file_told : (options : LlbOptions) (bytes : List ℕ) (made : Evaluated) (beside : Beside) (result : Result Told TellFault) → Asks bytes (Ok made)
    → IsBeside bytes beside → IsFileTold options made beside result → IsLlbTold options bytes result
file_told options bytes made beside (Ok told) asked has is = subst (λ s. TellsLlb options bytes s told.text) (sym is.0) (made, asked, (beside, has, is.1))
file_told options bytes made beside (Err Memory) asked has is = tt
file_told options bytes made beside (Err Device) asked has is = absurd is
file_told options bytes made beside (Err Clash) asked has is = (made, asked, (beside, has, is))
file_told options bytes made beside (Err Unspeakable) asked has is = (made, asked, (beside, has, is))

-- the refusal of a bundle
pub refusal_told : (options : LlbOptions) (bytes : List ℕ) (fault : Fault Rejection) (refusal : Rejection) (told : Told) → fault ≡ Because refusal
    → IsAsked bytes (Err fault) → told.status ≡ Refused → told.text ≡ line_of (refused_text refusal) → IsLlbTold options bytes (Ok told)
refusal_told options bytes fault refusal told because asked status text =
    subst (λ s. TellsLlb options bytes s told.text) (sym status) (refusal, subst (λ f. IsAsked bytes (Err f)) because asked, text)
