use Rattle.std.proofs.Common.{arith, refl}
use Rattle.wire.specs.Varint.{varint}
use Rattle.wire.proofs.VarintLemmas.{advance}
use Rattle.wire.proofs.varint.push_varint.Goals as goal

pub bytes-init : goal.bytes-init
unfolding varint
bytes-init c = (9, omega (arith, c.ranges.value.fits), refl)

pub bytes-preserved : goal.bytes-preserved
bytes-preserved c = advance c.bytes.invariant.0 _ _ _ _ (omega (arith, c.bytes-test.true)) c.bytes.invariant.1 c.bytes.invariant.2 c.in_ok-push.ensures.items
