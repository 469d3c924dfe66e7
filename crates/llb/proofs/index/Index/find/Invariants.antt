use Rattle.llb.proofs.IndexKept.{IsSought}
use Rattle.llb.proofs.index.Index.find.Given as goal

abbrev pub invariant-loop-end : goal.invariant-loop-end
invariant-loop-end l = IsSought l.self l.vertices l.hash l.vertex l.end

abbrev pub decreases-loop-end : goal.decreases-loop-end
decreases-loop-end l = l.end
