use Rattle.std.proofs.Common.{take, ◌≡◌}
use Rattle.std.specs.Prelude.{IsCharBoundary}
use Rattle.ascii.specs.Blanks.{before_blanks}
use Rattle.ascii.proofs.blanks.before_blanks.Given as goal

abbrev pub invariant-loop-end : goal.invariant-loop-end
invariant-loop-end l = record { cut : IsCharBoundary l.bytes l.end; same : before_blanks (take l.end l.bytes) ≡ before_blanks l.bytes }

abbrev pub decreases-loop-end : goal.decreases-loop-end
decreases-loop-end l = l.end
