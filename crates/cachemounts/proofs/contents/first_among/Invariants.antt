use Rattle.cachemounts.specs.PrivateContent.{IsFirstAmong}
use Rattle.cachemounts.proofs.contents.first_among.Given as goal

abbrev pub invariant-loop-place : goal.invariant-loop-place
invariant-loop-place l = IsFirstAmong l.contents l.id l.slot l.places l.place-index l.first
