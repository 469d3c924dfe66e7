use Rattle.std.proofs.Common.{◌≡◌, None, drop}
use Rattle.std.specs.Option.{option_map}
use Rattle.entries.specs.PrivateOrder.{in_order_after}
use Rattle.entries.proofs.apart.are_in_order.Given as goal

-- the rows that are left decide
abbrev pub invariant-loop-row : goal.invariant-loop-row
invariant-loop-row l = in_order_after None l.rows ≡ in_order_after (option_map (λ row. row.now) l.before) (drop l.row-index l.rows)
