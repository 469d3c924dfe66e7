use Rattle.std.proofs.Common.{◌≡◌, ◌<◌, ◌==◌, ℕ, false, get_or}
use Rattle.paths.proofs.pieces.piece_len.Given as goal

abbrev pub invariant-loop-index : goal.invariant-loop-index
invariant-loop-index l = (k : ℕ) → k < l.index → (get_or l.text k 0 == 47) ≡ false
