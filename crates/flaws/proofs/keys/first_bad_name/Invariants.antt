use Rattle.std.proofs.Common.{◌≡◌, drop, map}
use Rattle.bundle.specs.Parts.{is_image_name}
use Rattle.flaws.specs.Looks.{first_key}
use Rattle.flaws.proofs.keys.first_bad_name.Given as goal

-- the rows that are left decide
abbrev pub invariant-loop-row : goal.invariant-loop-row
invariant-loop-row g l = first_key is_image_name (map (λ row. row.0) (drop l.row-index l.rows)) ≡ first_key is_image_name (map (λ row. row.0) l.rows)
