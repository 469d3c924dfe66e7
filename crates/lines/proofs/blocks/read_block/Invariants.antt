use Rattle.std.proofs.Common.{◌≡◌, ◌+◌, map, length}
use Rattle.lines.specs.PrivateSteps.{after_lines}
use Rattle.lines.specs.PrivateScan.{state_at}
use Rattle.lines.proofs.blocks.read_block.Given as goal

abbrev pub invariant-loop-line : goal.invariant-loop-line
invariant-loop-line l = record {
  goes : (goal.iterator-loop-line).can_next l.line-iterator;
  ends : (goal.iterator-loop-line).is_finite l.line-iterator;
  read : l.state ≡ after_lines (state_at l.fn.progress.place l.fn.progress.room) (map (λ line. line.now) l.yielded);
  count : l.state.count ≡ l.fn.progress.place.count + length l.yielded;
}
