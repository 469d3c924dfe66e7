use Rattle.std.proofs.Common.{◌≡◌, []}
use Rattle.named.specs.Rows.{put_rows}
use Rattle.named.proofs.rows.NamedRows.copy.Given as goal

abbrev pub invariant-loop-name : goal.invariant-loop-name
invariant-loop-name g l = put_rows l.rows.entries l.name-iterator ≡ put_rows [] l.initial.name-iterator
