use Rattle.lowering.proofs.NeededFacts.{stands_needed}
use Rattle.lowering.proofs.OrderFacts.{stands_least}
use Rattle.build.proofs.PlanFacts.{tells_as_is}
use Rattle.build.proofs.lowered.lower_evaluated.Goals as goal

pub returns : goal.returns
returns c = record {
  means = c.in_ok-plan.ensures.means;
  stands = c.in_ok-plan.ensures.stands;
  config = c.in_ok-plan.ensures.config;
  sources = c.in_ok-plan.ensures.sources;
  needed = λ out. stands_needed out c.in_ok-plan.plan _ _ c.in_ok-plan.ensures.stands c.requires.needs;
  order = λ out. stands_least out c.in_ok-plan.plan _ _ c.in_ok-plan.ensures.stands c.requires.order;
  tells = λ out solution is.
      tells_as_is out c.in_ok-plan.plan c.args.evaluated solution c.in_ok-plan.ensures.means c.in_ok-plan.ensures.stands c.requires.order c.requires.needs
      c.in_ok-plan.ensures.config c.in_ok-plan.ensures.sources c.graph-known.ensures.plan is;
}
