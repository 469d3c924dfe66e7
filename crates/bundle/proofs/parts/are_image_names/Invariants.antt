use Rattle.std.proofs.Common.{◌≡◌, drop}
use Rattle.std.specs.List.{list_all}
use Rattle.bundle.specs.Parts.{is_image_name}
use Rattle.bundle.proofs.parts.are_image_names.Given as goal

-- the rows that are left decide
abbrev pub invariant-loop-row : goal.invariant-loop-row
invariant-loop-row g l = list_all (λ row. is_image_name row.0) l.rows ≡ list_all (λ row. is_image_name row.0) (drop l.row-index l.rows)
