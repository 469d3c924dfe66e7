use Rattle.std.proofs.Common.{◌≤◌}
use Rattle.paths.proofs.spelled.count_slashes.Given as goal

-- there are no more of them than bytes
abbrev pub invariant-loop-byte : goal.invariant-loop-byte
invariant-loop-byte l = l.count ≤ l.byte-index
