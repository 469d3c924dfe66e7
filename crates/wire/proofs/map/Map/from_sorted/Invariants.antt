use Rattle.std.proofs.Common.{◌≡◌, ◌++◌}
use Rattle.wire.proofs.map.Map.from_sorted.Given as goal

-- the entries so far, and those that are left
abbrev pub invariant-loop-entry : goal.invariant-loop-entry
invariant-loop-entry g l = l.entries.items ++ l.entry-iterator ≡ l.fn.sorted.entries
