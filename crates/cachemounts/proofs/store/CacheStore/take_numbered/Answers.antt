use Rattle.std.proofs.Common.{◌≡◌, ◌++◌, true, false, rules, sym, subst}
use Rattle.cachemounts.specs.Holds.{new_holds, can_take, is_holder, nobody}
use Rattle.cachemounts.specs.Content.{have_contents}
use Rattle.cachemounts.specs.Changes.{Takes}
use Rattle.cachemounts.specs.Store.{IsAfter}
use Rattle.cachemounts.proofs.StoreLemmas.{store_of, IsStore-takes, IsAfter-takes}
use Rattle.cachemounts.proofs.store.CacheStore.take_numbered.Goals as goal

pub invariant_of-self-2 : goal.invariant_of-self-2
invariant_of-self-2 c =
    let s = c.self.inside in
    let holds : c.in_ok-taken.taken.items ≡ new_holds c.args.holder s.holds.items c.args.uses.now = search rules in
    let have : have_contents (s.contents ++ c.in_ok-more.more.items) c.in_ok-taken.taken.items ≡ true = search rules in
    let apart : is_holder nobody (new_holds c.args.holder s.holds.items c.args.uses.now) ≡ false = subst (λ v. is_holder nobody (new_holds c.args.holder v.holds c.args.uses.now) ≡ false) (sym c.self.view_is) c.requires.apart in
    let may : can_take s.holds.items c.args.uses.now ≡ true = subst (λ v. can_take v.holds c.args.uses.now ≡ true) (sym c.self.view_is) c.requires.may in
    IsStore-takes s.contents c.in_ok-more.more.items c.add.new.self s.holds.items c.in_ok-taken.taken.items c.append.new.list.items c.args.holder c.args.uses.now c.self.invariant holds c.in_ok-add.ensures.ok (search rules) have may c.requires.differ apart

pub returns-clause-ok : goal.returns-clause-ok
returns-clause-ok c =
    let s = c.self.inside in
    let holds : c.in_ok-taken.taken.items ≡ new_holds c.args.holder s.holds.items c.args.uses.now = search rules in
    subst (λ v. IsAfter (Takes c.args.holder c.args.uses.now) v (store_of c.add.new.self c.append.new.list.items)) c.self.view_is (IsAfter-takes s.contents c.in_ok-more.more.items c.add.new.self s.holds.items c.in_ok-taken.taken.items c.append.new.list.items c.args.holder c.args.uses.now holds c.in_ok-add.ensures.ok (search rules) c.in_ok-more.ensures.empty)
