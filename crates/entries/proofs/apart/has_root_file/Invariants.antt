use Rattle.std.proofs.Common.{◌≡◌, drop}
use Rattle.std.specs.List.{list_any}
use Rattle.entries.specs.Listing.{is_root_file}
use Rattle.entries.proofs.apart.has_root_file.Given as goal

-- the rows that are left decide
abbrev pub invariant-loop-row : goal.invariant-loop-row
invariant-loop-row l = list_any is_root_file l.rows ≡ list_any is_root_file (drop l.row-index l.rows)
