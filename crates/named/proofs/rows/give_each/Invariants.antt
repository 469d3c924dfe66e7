use Rattle.std.proofs.Common.{◌≡◌, ◌≤◌, length}
use Rattle.indexmap.specs.IndexMap.{spare}
use Rattle.named.specs.Rows.{give_rows}
use Rattle.named.proofs.rows.give_each.Given as goal

abbrev pub invariant-loop-name : goal.invariant-loop-name
invariant-loop-name g l = record {
  rows : give_rows l.rows.entries l.name-iterator.rest.items ≡ give_rows l.initial.rows.entries l.initial.name-iterator.rest.items;
  room : length l.name-iterator.rest.items ≤ spare l.rows;
}
