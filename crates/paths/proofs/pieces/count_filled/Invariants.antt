use Rattle.std.proofs.Common.{◌≤◌}
use Rattle.paths.proofs.pieces.count_filled.Given as goal

abbrev pub invariant-loop-byte : goal.invariant-loop-byte
invariant-loop-byte l = l.count ≤ 64
