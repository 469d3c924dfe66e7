use Rattle.std.proofs.Common.{arith}
use Rattle.cachemounts.specs.Holds.{nobody}
use Rattle.cachemounts.proofs.HoldLemmas.{takings-below}
use Rattle.cachemounts.proofs.store.CacheStore.take_as.Goals as goal

pub take_numbered-requires-clause-apart : goal.take_numbered-requires-clause-apart
unfolding nobody
take_numbered-requires-clause-apart c =
    takings-below c.args.holder c.args.self.now.holds c.args.uses.now (omega (arith, c.ranges.holder.fits))
