use Rattle.std.proofs.Common.{◌≡◌, refl, Err, subst, rules}
use Rattle.plain.specs.declared.fault.Fault.{Fault}
use Rattle.plain.specs.declared.fault.Fault.TheVariants.{Because}
use Rattle.exported.specs.declared.fault.Obstacle.{Obstacle}
use Rattle.command.specs.declared.task.LlbOptions.{LlbOptions}
use Rattle.imageconfig.specs.declared.config.Config.{Config}
use Rattle.plans.specs.Plan.{PlanValue}
use Rattle.program.specs.declared.exporting.Beside.{Beside}
use Rattle.program.specs.PrivateLlb.{IsPlanTold}
use Rattle.program.proofs.LlbFacts.{obstacle_told}
use Rattle.program.proofs.exporting.tell_file.Goals as goal

pub returns-in-Ok : goal.returns-in-Ok
returns-in-Ok c = (refl, record { plan = c.in_ok-plan.plan; drawn = c.in_ok-plan.ensures; written = c.in-Ok.ensures })

met : (options : LlbOptions) (plan : PlanValue Config) (beside : Beside) (fault : Fault Obstacle) (obstacle : Obstacle) → fault ≡ Because obstacle
    → IsPlanTold options plan beside (Err fault) → IsPlanTold options plan beside (Err (Because obstacle))
met options plan beside fault obstacle is told = subst (λ f. IsPlanTold options plan beside (Err f)) is told

pub returns-in-Err-Because : goal.returns-in-Err-Because
returns-in-Err-Because c =
    obstacle_told c.args.options.now c.args.evaluated c.args.beside.now c.in_ok-plan.plan c.in-Err-Because.obstacle c.fault_of.result c.fault_of.ensures c.in_ok-plan.ensures
    (met c.args.options.now c.in_ok-plan.plan c.args.beside.now c.in-Err-Because.field-0 c.in-Err-Because.obstacle (search rules) c.in-Err-Because.ensures-1)
