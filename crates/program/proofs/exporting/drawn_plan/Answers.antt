use Rattle.program.proofs.LlbFacts.{drawn}
use Rattle.program.proofs.exporting.drawn_plan.Goals as goal

pub returns : goal.returns
returns c =
    drawn c.args.evaluated c.in_ok-plan.plan c.simplify.result c.graph-known.ensures.plan c.in_ok-plan.ensures.means c.in_ok-plan.ensures.stands c.in_ok-plan.ensures.sources
    c.simplify.ensures.simplified c.simplify.ensures.keeps
