use Rattle.cachemounts.proofs.StoreLemmas.{IsStore-without}
use Rattle.cachemounts.proofs.store.CacheStore.release.Goals as goal

pub invariant_of-self : goal.invariant_of-self
invariant_of-self c = IsStore-without c.self.inside.contents c.self.inside.holds.items c.drop_holder.new.holds.items c.holder-holder.result c.drop_holder.ensures c.self.invariant.lawful c.self.invariant.contents c.self.invariant.apart
