use Rattle.std.proofs.Common.{◌≡◌, subst, true}
use Rattle.cachemounts.specs.Content.{have_contents}
use Rattle.cachemounts.proofs.StoreLemmas.{IsStore-without}
use Rattle.cachemounts.proofs.store.CacheStore.give.Goals as goal

pub invariant_of-self : goal.invariant_of-self
invariant_of-self c =
    IsStore-without c.give_back.new.contents c.self.inside.holds.items c.drop_holder.new.holds.items c.holder-holder.result c.drop_holder.ensures c.self.invariant.lawful (subst (λ b. have_contents c.give_back.new.contents b ≡ true) c.as_slice.ensures.value c.give_back.ensures.have) c.self.invariant.apart
