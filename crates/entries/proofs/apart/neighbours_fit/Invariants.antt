use Rattle.std.proofs.Common.{◌≡◌, None, map, drop}
use Rattle.std.specs.Option.{option_map}
use Rattle.entries.specs.PrivateOrder.{fits_after}
use Rattle.entries.proofs.apart.neighbours_fit.Given as goal

-- the rows that are left decide
abbrev pub invariant-loop-row : goal.invariant-loop-row
invariant-loop-row l = fits_after None (map (λ row. row.now) l.rows) ≡ fits_after (option_map (λ row. row.now) l.before) (map (λ row. row.now) (drop l.row-index l.rows))
