use Rattle.std.proofs.Common.{arith}
use Rattle.cachemounts.proofs.IndexLemmas.{first-step}
use Rattle.cachemounts.proofs.contents.first_among.Goals as goal

pub loop-place-init : goal.loop-place-init
loop-place-init c = record { stands = tt; least = λ k l e. absurd (omega (arith, l)) }

pub loop-place-preserved : goal.loop-place-preserved
loop-place-preserved c = first-step c.args.contents.now c.args.id.now c.args.slot c.args.places.now c.loop-place.place-index c.loop-place.first c.earlier-first.result c.earlier-first.ensures c.loop-place.invariant
