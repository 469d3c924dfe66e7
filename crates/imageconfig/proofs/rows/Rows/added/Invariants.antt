use Rattle.std.proofs.Common.{◌≡◌}
use Rattle.imageconfig.specs.PrivateRows.{add_rows}
use Rattle.imageconfig.proofs.rows.Rows.added.Given as goal

abbrev pub invariant-loop-name : goal.invariant-loop-name
invariant-loop-name l = add_rows l.once l.name-iterator.rest.items ≡ add_rows l.initial.once l.initial.name-iterator.rest.items
