use Rattle.std.proofs.Common.{◌-◌, ◌≤◌, length}
use Rattle.lines.specs.PrivateRead.{IsAt}
use Rattle.lines.specs.PrivateScan.{state_at}
use Rattle.lines.proofs.pieces.take_lines.Given as goal

abbrev pub invariant-loop-end : goal.invariant-loop-end
invariant-loop-end l = record {
  reached : IsAt (state_at l.fn.progress.place l.fn.progress.room) l.fn.progress.is_first l.kept l.scan l.bytes l.at l.from;
  within : l.from ≤ length l.bytes;
}

abbrev pub decreases-loop-end : goal.decreases-loop-end
decreases-loop-end l = length l.bytes - l.from
