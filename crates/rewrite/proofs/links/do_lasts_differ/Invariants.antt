use Rattle.rewrite.proofs.DifferFacts.{DifferSoFar}
use Rattle.rewrite.proofs.links.do_lasts_differ.Given as goal

abbrev pub invariant-loop-at : goal.invariant-loop-at
invariant-loop-at l = DifferSoFar l.vertices l.marks l.lasts.items l.at
