use Rattle.std.proofs.Common.{◌≡◌, ℕ, ◌<◌, ◌≤◌, ◌==◌, false, length}
use Rattle.std.specs.Prelude.{slice_index}
use Rattle.board.specs.PrivateNumbers.{has}
use Rattle.board.proofs.frontier.without_inputs.Given as goal

abbrev pub invariant-loop-number : goal.invariant-loop-number
invariant-loop-number l = record {
  long : length l.available ≡ length l.counts;
  passed : (k : ℕ) → k < l.number → has l.available k ≡ (slice_index l.counts k == 0);
  rest : (k : ℕ) → l.number ≤ k → has l.available k ≡ false;
}
