use Rattle.std.proofs.Common.{◌≡◌, drop}
use Rattle.exported.specs.Merges.{trees_after, trees_at}
use Rattle.exported.proofs.merges.trees_at.Given as goal

-- those found, and those of what is left
abbrev pub invariant-loop-place : goal.invariant-loop-place
invariant-loop-place l = trees_after l.digests (drop l.place-index l.places) ≡ trees_at l.places
