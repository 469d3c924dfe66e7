use Rattle.std.proofs.Common.{◌≡◌, drop}
use Rattle.exported.specs.Places.{inputs_after, inputs_of}
use Rattle.exported.proofs.places.inputs_of.Given as goal

-- those found, and those of what is left
abbrev pub invariant-loop-place : goal.invariant-loop-place
invariant-loop-place l = inputs_after l.digests (drop l.place-index l.places) ≡ inputs_of l.places
