use Rattle.std.proofs.Common.{◌≡◌, ◌++◌}
use Rattle.std.specs.Option.{option_map}
use Rattle.strict.specs.Strict.{members_in}
use Rattle.borrowed.specs.PrivateRows.{rows_data}
use Rattle.borrowed.proofs.lists.keyed_members.Given as goal

-- what is read with what is left is all
abbrev pub invariant-loop-key : goal.invariant-loop-key
invariant-loop-key g l = option_map (λ rest. l.rows ++ rest) (members_in g.T.FromLentKeyed.reading (rows_data l.key-iterator)) ≡ members_in g.T.FromLentKeyed.reading (rows_data l.fn.members.entries)
