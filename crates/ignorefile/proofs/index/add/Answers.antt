use Rattle.std.proofs.Common.{ap, subst, refl, IsSome, OnOk, List, ℕ}
use Rattle.std.specs.declared.option.Option.{Option}
use Rattle.std.proofs.lemmas.Result.{on_ok_weaker}
use Rattle.ignorefile.specs.PrivateIndex.{IsAdded}
use Rattle.ignorefile.proofs.Handing.{add-some, add-none}
use Rattle.ignorefile.proofs.index.add.Goals as goal

pub returns-in-Some : goal.returns-in-Some
returns-in-Some c =
    let changed = ((c.get_mut.follows.holds c.push.new.self).3 (subst (λ (o : Option (List ℕ)). IsSome o) c.in-Some.ensures.value refl)).0 in
    subst (λ (name : List ℕ). OnOk c.push.result (IsAdded c.args.by_name.now.entries (c.get_mut.follows.lender c.push.new.self).entries name c.args.position)) c.in_ok-name.ensures
    (on_ok_weaker _ (add-some _ _ _ _ _ _ c.in-Some.ensures.value changed) c.push.ensures.ok)

pub returns-in_ok-insert-in-None : goal.returns-in_ok-insert-in-None
returns-in_ok-insert-in-None c =
    subst (λ (name : List ℕ). IsAdded c.args.by_name.now.entries c.insert.new.self.entries name c.args.position) c.in_ok-name.ensures
    (add-none _ _ _ _ _ _ _ _ (ap (λ m. m.entries) c.get_mut.follows.holds-at-none) c.in-None.ensures.value refl c.new-positions.ensures c.in_ok-push-in-None.ensures.ok c.in_ok-insert-in-None.ensures.updates.0)
