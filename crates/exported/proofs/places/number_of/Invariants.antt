use Rattle.std.proofs.Common.{◌≡◌, ◌+◌, drop}
use Rattle.exported.specs.Places.{number_of}
use Rattle.exported.proofs.places.number_of.Given as goal

-- none of the digests so far is it
abbrev pub invariant-loop-number : goal.invariant-loop-number
invariant-loop-number l = number_of l.digests l.digest ≡ l.number + number_of (drop l.number l.digests) l.digest
