use Rattle.std.proofs.Common.{◌≡◌, ◌≢◌, ℕ, ◌<◌, ◌+◌, ◌*◌, ◌/◌, length, drop}
use Rattle.std.specs.Prelude.{slice_index}
use Rattle.board.specs.PrivateNumbers.{IsLesser}
use Rattle.board.proofs.number_set.write.Given as goal

abbrev pub invariant-loop-at : goal.invariant-loop-at
invariant-loop-at l = record {
  inner : l.at < length l.nodes / 2;
  heap : (i : ℕ) → 0 < i → i < length l.nodes / 2 → i ≢ l.at → IsLesser (slice_index l.nodes (2 * i)) (slice_index l.nodes (2 * i + 1)) (slice_index l.nodes i);
  leaves : drop (length l.nodes / 2) l.nodes ≡ drop (length l.nodes / 2) l.initial.nodes;
}

abbrev pub decreases-loop-at : goal.decreases-loop-at
decreases-loop-at l = l.at
