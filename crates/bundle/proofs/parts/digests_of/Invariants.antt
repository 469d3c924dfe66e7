use Rattle.std.proofs.Common.{◌≡◌, drop}
use Rattle.bundle.specs.Parts.{digests_of, with_digests}
use Rattle.bundle.proofs.parts.digests_of.Given as goal

-- the digests so far with those of the rows that are left are all
abbrev pub invariant-loop-row : goal.invariant-loop-row
invariant-loop-row g l = with_digests l.digests (drop l.row-index l.rows) ≡ digests_of l.rows
