-- A store stays in order through each change.
use Rattle.std.specs.List.{list_any}
use Rattle.std.proofs.Common.{◌≡◌, ◌==◌, not, ℕ, true, false, List, [], ◌∷◌, ◌++◌, length, refl, sym, ap, ◌∙◌, subst}
use Rattle.std.proofs.Common.{zero, suc, ◌<◌, ◌⊎◌, inl, inr, Bool, Some, arith}
use Rattle.std.specs.Prelude.{slice_get, Ok, Err, IfOk, OnOk}
use Rattle.std.specs.declared.result.Result.{Result}
use Rattle.trees.specs.TreeMap.{TreeMap}
use Rattle.std.proofs.lemmas.List.Folds.{list_any-append}
use Rattle.std.proofs.lemmas.Bool.{eq-eqb, or_parts, or_from, and_parts, and_from, not-true, both_ways, cases_order}
use Rattle.cachemounts.specs.declared.holds.Access.TheVariants.{Alone}
use Rattle.runs.specs.declared.run.CacheUse.{CacheUse}
use Rattle.runs.specs.Run.{ids_differ, ids_of}
use Rattle.cachemounts.specs.declared.holds.Hold.{Hold}
use Rattle.cachemounts.specs.declared.content.Content.{Content}
use Rattle.cachemounts.specs.Holds.{can_take, new_holds, without_holder, is_holder, nobody, of_holder, is_lawful, holds_clash, accesses_clash, is_common, same_id}
use Rattle.cachemounts.proofs.HoldLemmas.{lawful-takes, lawful-filter, all_filter, any_filter_none, alone_clash, of_holder-takes, length-new_holds}
use Rattle.cachemounts.specs.Content.{slot_of, is_content, tree_in, have_contents}
use Rattle.cachemounts.proofs.ContentLemmas.{id_itself, content-more, have_cells-more, have_cells-append}
use Rattle.cachemounts.specs.PrivateContent.{AreEmpty}
use Rattle.cachemounts.specs.Changes.{Takes}
use Rattle.cachemounts.specs.StoreValue.{StoreValue, LeaseValue}
use Rattle.cachemounts.specs.Store.{IsAfter, IsStore}

abbrev pub store_of : List Content → List Hold → StoreValue
store_of contents holds = record { contents = contents; holds = holds }

pub IsStore-without : (contents : List Content) (holds left : List Hold) (holder : ℕ) → left ≡ without_holder holder holds → is_lawful holds ≡ true → have_contents contents holds ≡ true → is_holder nobody holds ≡ false → IsStore (store_of contents left)
IsStore-without contents holds left holder e lawful have apart =
    subst (λ b. IsStore (store_of contents b)) (sym e) (record {
      lawful = lawful-filter (λ hold. not (hold.holder == holder)) holds lawful;
      contents = all_filter (λ (hold : Hold). list_any (is_content hold.id (slot_of hold.access)) contents) (λ hold. not (hold.holder == holder)) holds have;
      apart = any_filter_none (λ hold. hold.holder == nobody) (λ hold. not (hold.holder == holder)) holds apart;
    })

pub IsStore-takes : (contents fresh now : List Content) (holds taken after : List Hold) (holder : ℕ) (uses : List CacheUse) → IsStore (store_of contents holds) → taken ≡ new_holds holder holds uses → now ≡ contents ++ fresh → after ≡ holds ++ taken → have_contents (contents ++ fresh) taken ≡ true → can_take holds uses ≡ true → ids_differ (ids_of uses) ≡ true → is_holder nobody (new_holds holder holds uses) ≡ false → IsStore (store_of now after)
IsStore-takes contents fresh now holds taken after holder uses is e f g have may differ apart =
    subst (λ b. IsStore (store_of now b)) (sym g) (subst (λ cs. IsStore (store_of cs (holds ++ taken))) (sym f) (record {
      lawful = subst (λ b. is_lawful (holds ++ b) ≡ true) (sym e) (lawful-takes holder holds uses is.lawful may differ);
      contents = have_cells-append (contents ++ fresh) holds taken (have_cells-more contents fresh holds is.contents) have;
      apart = list_any-append (λ hold. hold.holder == nobody) holds taken ∙ or_from _ _ is.apart (subst (λ b. is_holder nobody b ≡ false) (sym e) apart);
    }))

pub IsAfter-takes : (contents fresh now : List Content) (holds taken after : List Hold) (holder : ℕ) (uses : List CacheUse) → taken ≡ new_holds holder holds uses → now ≡ contents ++ fresh → after ≡ holds ++ taken → AreEmpty fresh → IsAfter (Takes holder uses) (store_of contents holds) (store_of now after)
IsAfter-takes contents fresh now holds taken after holder uses e f g empty = record {
  holds = g ∙ ap (λ b. holds ++ b) e;
  contents = λ id slot. ap (λ cs. tree_in cs id slot) f ∙ content-more contents fresh id slot empty;
}

-- a holder that held nothing holds as many caches as it takes
pub held-takes : {E : Type 0} (old new : StoreValue) (holder : ℕ) (uses : List CacheUse) (trees : List TreeMap) (result : Result LeaseValue E) → is_holder holder old.holds ≡ false → OnOk result (IsAfter (Takes holder uses) old new) → IfOk result (λ lease. lease ≡ record { holder = holder; trees = trees }) → IfOk result (λ lease. length (of_holder lease.holder new.holds) ≡ length uses)
held-takes old new holder uses trees (Err error) free is lent = tt
held-takes old new holder uses trees (Ok lease) free is lent =
    ap (λ (l : LeaseValue). length (of_holder l.holder new.holds)) lent
    ∙ ap (λ holds. length (of_holder holder holds)) is.holds
    ∙ ap length (of_holder-takes holder holder old.holds uses free)
    ∙ rw (eq-eqb holder holder refl) (length-new_holds holder old.holds uses)

none_at : {X : Type 0} (test : X → Bool) (xs : List X) (i : ℕ) (x : X) → list_any test xs ≡ false → slice_get xs i ≡ Some x → test x ≡ false
none_at test [] i x none is = cc
none_at test (y ∷ ys) zero x none is = (let same : y ≡ x = cc in rw (← same) (or_parts (test y) (list_any test ys) none).0)
none_at test (y ∷ ys) (suc i) x none is = none_at test ys i x (or_parts (test y) (list_any test ys) none).1 is

lawful_pair : (holds : List Hold) → is_lawful holds ≡ true → (i j : ℕ) (hold other : Hold) → i < j → slice_get holds i ≡ Some hold → slice_get holds j ≡ Some other → holds_clash hold other ≡ false
lawful_pair [] e i j hold other l is js = cc
lawful_pair (first ∷ holds) e i zero hold other l is js = absurd (omega (arith, l))
lawful_pair (first ∷ holds) e zero (suc j) hold other l is js =
    let same : first ≡ hold = cc in
    rw (← same) (none_at (holds_clash first) holds j other (not-true _ (and_parts (not (list_any (holds_clash first) holds)) (is_lawful holds) e).0) js)
lawful_pair (first ∷ holds) e (suc i) (suc j) hold other l is js = lawful_pair holds (and_parts (not (list_any (holds_clash first) holds)) (is_lawful holds) e).1 i j hold other (omega (arith, l)) is js

-- a locked holder is alone on its common content
pub locked-alone : (holds : List Hold) → is_lawful holds ≡ true → (i j : ℕ) (hold other : Hold) → slice_get holds i ≡ Some hold → slice_get holds j ≡ Some other → hold.access ≡ Alone → is_common other.access ≡ true → hold.id ≡ other.id → i ≡ j
locked-alone holds lawful i j hold other is js alone common id = by_order (cases_order i j)
  where
    by_order : (i ≡ j) ⊎ ((i < j) ⊎ (j < i)) → i ≡ j
    by_order (inl e) = e
    by_order (inr (inl l)) =
        let no : holds_clash hold other ≡ false = lawful_pair holds lawful i j hold other l is js in
        let yes : holds_clash hold other ≡ true = and_from (same_id hold.id other.id) (accesses_clash hold.access other.access) (rw id (id_itself other.id)) (rw alone common) in
        absurd (both_ways _ no yes)
    by_order (inr (inr l)) =
        let no : holds_clash other hold ≡ false = lawful_pair holds lawful j i other hold l js is in
        let yes : holds_clash other hold ≡ true = and_from (same_id other.id hold.id) (accesses_clash other.access hold.access) (rw id (id_itself other.id)) (rw alone (alone_clash other.access ∙ common)) in
        absurd (both_ways _ no yes)
