use Rattle.std.proofs.Common.{◌≡◌, ◌++◌}
use Rattle.imageconfig.specs.PrivateRows.{of_names}
use Rattle.imageconfig.proofs.names.present.Given as goal

abbrev pub invariant-loop-name : goal.invariant-loop-name
invariant-loop-name l = of_names l.rows ++ l.name-iterator.rest.items ≡ l.initial.name-iterator.rest.items
