use Rattle.build.proofs.PlanFacts.{tells}
use Rattle.build.proofs.planning.plan_of.Goals as goal

pub returns-then-is_flat-clause-tells : goal.returns-then-is_flat-clause-tells
returns-then-is_flat-clause-tells c = c.in_ok-plan.ensures.tells

pub returns-then-is_flat-clause-needed : goal.returns-then-is_flat-clause-needed
returns-then-is_flat-clause-needed c = c.in_ok-plan.ensures.needed

pub returns-clause-tells : goal.returns-clause-tells
returns-clause-tells c = λ out solution is.
    tells out c.in_ok-plan.plan c.in_ok-smaller.smaller c.args.evaluated solution c.in_ok-plan.ensures.means c.in_ok-plan.ensures.stands c.requires.order c.requires.needs
    c.in_ok-plan.ensures.config c.in_ok-plan.ensures.sources c.graph-known.ensures.plan c.in_ok-smaller.ensures.order c.in_ok-smaller.ensures.lined
    c.in_ok-smaller.ensures.keeps (c.in_ok-smaller.ensures.needed out) is
