use Rattle.std.proofs.Common.{◌≡◌, ◌++◌, drop}
use Rattle.trees.specs.PrivateSeen.{seen_kids}
use Rattle.trees.proofs.names.Names.placed.Given as goal

-- the rows placed so far, and those that are left
abbrev pub invariant-loop-row : goal.invariant-loop-row
invariant-loop-row l = l.rows.items ++ seen_kids l.options (drop l.row-index l.all) ≡ seen_kids l.options l.all
