use Rattle.std.proofs.Common.{length, drop, ◌-◌, ◌≡◌}
use Rattle.std.specs.Prelude.{IsCharBoundary}
use Rattle.lines.specs.Blanks.{after_tabs}
use Rattle.lines.proofs.blanks.after_tabs.Given as goal

abbrev pub invariant-loop-at : goal.invariant-loop-at
invariant-loop-at l = record { cut : IsCharBoundary l.bytes l.at; same : after_tabs (drop l.at l.bytes) ≡ after_tabs l.bytes }

abbrev pub decreases-loop-at : goal.decreases-loop-at
decreases-loop-at l = length l.bytes - l.at
