-- What the tests on the mounts of a RUN say, target by target and id by id.
use Rattle.std.specs.Prelude.{◌≡◌, ℕ, zero, suc, Bool, true, false, ◌||◌, Some, List, [], ◌∷◌, not, nat_eq, slice_get, ◌≢◌, ◌↔◌}
use Rattle.std.proofs.Common.{sym, ap, refl, ◌∙◌, subst, true≢false, arith}
use Rattle.std.specs.List.{list_any}
use Rattle.std.specs.Cmp.Lexicographic.{pointwise, texts_ties}
use Rattle.std.proofs.lemmas.Option.{same_Some, none-some}
use Rattle.paths.specs.Path.{is_at_or_under}
use Rattle.paths.proofs.FrontLaws.{both_first, both_second, both_hold, name_same, name_itself}
use Rattle.runs.specs.Run.{targets_clash, is_root, mounts_fit, ids_differ, MountsFit, IdsDiffer}

not_true : (b : Bool) → not b ≡ true → b ≡ false
not_true true e = sym e
not_true false e = refl

true_not : (b : Bool) → b ≡ false → not b ≡ true
true_not true e = sym e
true_not false e = refl

neither : (a b : Bool) → (a || b) ≡ false → (a ≡ false) × (b ≡ false)
neither true b e = absurd (true≢false e)
neither false b e = (refl, e)

none_any : {A : Type 0} (test : A → Bool) (xs : List A) (i : ℕ) (x : A) → list_any test xs ≡ false → slice_get xs i ≡ Some x → test x ≡ false
none_any test [] i x none is = absurd (none-some x is)
none_any test (y ∷ ys) zero x none is = ap test (sym (same_Some y x is)) ∙ (neither (test y) (list_any test ys) none).0
none_any test (y ∷ ys) (suc i) x none is = none_any test ys i x (neither (test y) (list_any test ys) none).1 is

any_none : {A : Type 0} (test : A → Bool) (xs : List A) → ((i : ℕ) (x : A) → slice_get xs i ≡ Some x → test x ≡ false) → list_any test xs ≡ false
any_none test [] all = refl
any_none test (y ∷ ys) all = (λ k. all 0 y refl k || any_none test ys (λ i x is. all (suc i) x is) k)

no_root : (p : List (List ℕ)) → is_root p ≡ false → p ≢ []
no_root p e is = true≢false (ap is_root (sym is) ∙ e)

root_no : (p : List (List ℕ)) → p ≢ [] → is_root p ≡ false
root_no [] h = absurd (h refl)
root_no (c ∷ cs) h = refl

record Head (target : List (List ℕ)) (targets : List (List (List ℕ))) : Type 0 where
  root : is_root target ≡ false
  clash : list_any (targets_clash target) targets ≡ false
  rest : mounts_fit targets ≡ true

head : (target : List (List ℕ)) (targets : List (List (List ℕ))) → mounts_fit (target ∷ targets) ≡ true → Head target targets
head target targets e =
    let more = both_second (not (is_root target)) _ e in
    record { root = not_true _ (both_first _ _ e); clash = not_true _ (both_first _ _ more); rest = both_second (not (list_any (targets_clash target) targets)) _ more }

below_root-from_fit : (targets : List (List (List ℕ))) → mounts_fit targets ≡ true → (i : ℕ) (p : List (List ℕ)) → slice_get targets i ≡ Some p → p ≢ []
below_root-from_fit [] e i p is = absurd (none-some p is)
below_root-from_fit (t ∷ ts) e zero p is = subst (λ (x : List (List ℕ)). x ≢ []) (same_Some t p is) (no_root t (head t ts e).root)
below_root-from_fit (t ∷ ts) e (suc i) p is = below_root-from_fit ts (head t ts e).rest i p is

apart-from_fit : (targets : List (List (List ℕ))) → mounts_fit targets ≡ true → (i j : ℕ) (p q : List (List ℕ)) → i ≢ j → slice_get targets i ≡ Some p → slice_get targets j ≡ Some q → is_at_or_under p q ≡ false
apart-from_fit [] e i j p q n is js = absurd (none-some p is)
apart-from_fit (t ∷ ts) e zero zero p q n is js = absurd (n refl)
apart-from_fit (t ∷ ts) e zero (suc j) p q n is js =
    ap (λ x. is_at_or_under x q) (sym (same_Some t p is)) ∙ (neither (is_at_or_under t q) (is_at_or_under q t) (none_any (targets_clash t) ts j q (head t ts e).clash js)).0
apart-from_fit (t ∷ ts) e (suc i) zero p q n is js =
    ap (is_at_or_under p) (sym (same_Some t q js)) ∙ (neither (is_at_or_under t p) (is_at_or_under p t) (none_any (targets_clash t) ts i p (head t ts e).clash is)).1
apart-from_fit (t ∷ ts) e (suc i) (suc j) p q n is js = apart-from_fit ts (head t ts e).rest i j p q (λ k. n (ap suc k)) is js

fit-from : (targets : List (List (List ℕ))) → ((i : ℕ) (p : List (List ℕ)) → slice_get targets i ≡ Some p → p ≢ [])
    → ((i j : ℕ) (p q : List (List ℕ)) → i ≢ j → slice_get targets i ≡ Some p → slice_get targets j ≡ Some q → is_at_or_under p q ≡ false) → mounts_fit targets ≡ true
fit-from [] below apart = refl
fit-from (t ∷ ts) below apart =
    both_hold _ _ (true_not _ (root_no t (below 0 t refl)))
    (both_hold _ _ (true_not _ (any_none (targets_clash t) ts (λ i x is k. apart 0 (suc i) t x (λ e. omega arith) refl is k || apart (suc i) 0 x t (λ e. omega arith) is refl k)))
    (fit-from ts (λ i p is. below (suc i) p is) (λ i j p q n is js. apart (suc i) (suc j) p q (λ e. n (omega arith)) is js)))

-- the test holds just where the targets fit
pub mounts_fit-means : (targets : List (List (List ℕ))) → (mounts_fit targets ≡ true) ↔ MountsFit targets
mounts_fit-means targets = (λ e. record { below_root = below_root-from_fit targets e; apart = apart-from_fit targets e }, λ h. fit-from targets h.below_root h.apart)

same_id : (id other : List ℕ) → pointwise nat_eq id other ≡ true → id ≡ other
same_id id other e = name_same id other (sym (texts_ties id other) ∙ e)

itself : (id : List ℕ) → pointwise nat_eq id id ≡ true
itself id = texts_ties id id ∙ name_itself id

once-from_differ : (ids : List (List ℕ)) → ids_differ ids ≡ true → (i j : ℕ) (id : List ℕ) → slice_get ids i ≡ Some id → slice_get ids j ≡ Some id → i ≡ j
once-from_differ [] e i j id is js = absurd (none-some id is)
once-from_differ (x ∷ xs) e zero zero id is js = refl
once-from_differ (x ∷ xs) e zero (suc j) id is js = absurd (true≢false (sym (itself id) ∙ ap (λ y. pointwise nat_eq y id) (sym (same_Some x id is)) ∙ none_any (pointwise nat_eq x) xs j id (not_true _ (both_first _ _ e)) js))
once-from_differ (x ∷ xs) e (suc i) zero id is js = absurd (true≢false (sym (itself id) ∙ ap (λ y. pointwise nat_eq y id) (sym (same_Some x id js)) ∙ none_any (pointwise nat_eq x) xs i id (not_true _ (both_first _ _ e)) is))
once-from_differ (x ∷ xs) e (suc i) (suc j) id is js = ap suc (once-from_differ xs (both_second (not (list_any (pointwise nat_eq x) xs)) _ e) i j id is js)

differ-from : (ids : List (List ℕ)) → ((i j : ℕ) (id : List ℕ) → slice_get ids i ≡ Some id → slice_get ids j ≡ Some id → i ≡ j) → ids_differ ids ≡ true
differ-from [] once = refl
differ-from (x ∷ xs) once =
    both_hold _ _ (true_not _ (any_none (pointwise nat_eq x) xs (λ i y is. apart-by i y is (pointwise nat_eq x y) refl)))
    (differ-from xs (λ i j id is js. let e : suc i ≡ suc j = once (suc i) (suc j) id is js in omega arith))
  where
    apart-by : (i : ℕ) (y : List ℕ) → slice_get xs i ≡ Some y → (b : Bool) → pointwise nat_eq x y ≡ b → pointwise nat_eq x y ≡ false
    apart-by i y is true e = absurd (let z : 0 ≡ suc i = once 0 (suc i) x refl (is ∙ ap Some (sym (same_id x y e))) in omega arith)
    apart-by i y is false e = e

-- the test holds just where no id stands twice
pub ids_differ-means : (ids : List (List ℕ)) → (ids_differ ids ≡ true) ↔ IdsDiffer ids
ids_differ-means ids = (λ e. record { once = once-from_differ ids e }, λ h. differ-from ids h.once)
