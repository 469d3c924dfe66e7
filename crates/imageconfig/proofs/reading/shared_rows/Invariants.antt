use Rattle.std.proofs.Common.{◌≡◌, ◌++◌}
use Rattle.imageconfig.proofs.reading.shared_rows.Given as goal

abbrev pub invariant-loop-name : goal.invariant-loop-name
invariant-loop-name l = l.shared ++ l.name-iterator.rest.items ≡ l.initial.name-iterator.rest.items
