use Rattle.std.proofs.Common.{◌≡◌, drop, map}
use Rattle.flaws.specs.Looks.{first_key, is_among}
use Rattle.flaws.proofs.keys.first_other.Given as goal

-- the rows that are left decide
abbrev pub invariant-loop-row : goal.invariant-loop-row
invariant-loop-row g l =
    first_key (is_among (map (λ k. k.now) l.known)) (map (λ row. row.0) (drop l.row-index l.rows))
    ≡ first_key (is_among (map (λ k. k.now) l.known)) (map (λ row. row.0) l.rows)
