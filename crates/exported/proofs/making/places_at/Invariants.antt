use Rattle.std.proofs.Common.{◌≡◌, take}
use Rattle.exported.specs.Making.{places_at}
use Rattle.exported.proofs.making.places_at.Given as goal

-- the places of the vertices so far
abbrev pub invariant-loop-id : goal.invariant-loop-id
invariant-loop-id l = l.places ≡ places_at l.known (take l.id-index l.ids)
