use Rattle.std.proofs.Common.{◌≡◌, false, subst}
use Rattle.cachemounts.specs.Holds.{is_holder}
use Rattle.cachemounts.specs.StoreValue.{StoreValue}
use Rattle.cachemounts.proofs.StoreLemmas.{held-takes}
use Rattle.cachemounts.proofs.store.CacheStore.take.Goals as goal

pub returns-clause-held : goal.returns-clause-held
returns-clause-held c =
    held-takes c.args.self.now c.take_numbered.new.self c.number_for-holder.result c.args.uses.now _ c.take_numbered.result (subst (λ (v : StoreValue). is_holder c.number_for-holder.result v.holds ≡ false) c.self.view_is (subst (λ holds. is_holder c.number_for-holder.result holds ≡ false) c.as_slice.ensures.value c.number_for-holder.ensures.free)) c.take_numbered.ensures.ok c.take_numbered.ensures.lease
