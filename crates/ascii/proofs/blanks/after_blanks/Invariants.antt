use Rattle.std.proofs.Common.{length, drop, ◌-◌, ◌≡◌}
use Rattle.std.specs.Prelude.{IsCharBoundary}
use Rattle.ascii.specs.Blanks.{after_blanks}
use Rattle.ascii.proofs.blanks.after_blanks.Given as goal

abbrev pub invariant-loop-at : goal.invariant-loop-at
invariant-loop-at l = record { cut : IsCharBoundary l.bytes l.at; same : after_blanks (drop l.at l.bytes) ≡ after_blanks l.bytes }

abbrev pub decreases-loop-at : goal.decreases-loop-at
decreases-loop-at l = length l.bytes - l.at
