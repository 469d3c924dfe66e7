-- Rows by their positions, and one placement.
use Rattle.std.proofs.Common.{◌≡◌, ◌∙◌, ◌+◌, ◌<◌, ◌≤◌, ◌⊎◌, ℕ, Bool, true, false, List, [], ◌∷◌, ◌++◌, Option, Some, None, sym, ap, refl, subst, inl, inr, true≢false, arith, suc, zero, length, get_or, nat_lt, cond, append_assoc}
use Rattle.std.specs.List.{AllZip}
use Rattle.std.specs.Option.{option_or}
use Rattle.std.specs.Prelude.{slice_get}
use Rattle.std.specs.Ordering.{eq_by_cmp}
use Rattle.std.proofs.lemmas.Bool.{ltb-true, ltb-false, false_from_ne_true}
use Rattle.std.proofs.lemmas.List.{append-nil, length-append}
use Rattle.std.proofs.lemmas.Option.{same_Some, none-some}
use Rattle.paths.specs.Order.{path_cmp}
use Rattle.paths.specs.Fronts.{is_front}
use Rattle.paths.proofs.FrontLaws.{path_same, path_itself}
use Rattle.trees.specs.declared.entry.Entry.{Entry}
use Rattle.trees.specs.declared.entry.Entry.TheVariants.{Directory}
use Rattle.trees.specs.declared.meta.Meta.{Meta}
use Rattle.trees.specs.Put.{planted}

module _ {A : Type 0} where
  pub get-within : (xs : List A) (n : ℕ) (x : A) → slice_get xs n ≡ Some x → n < length xs
  get-within [] n x e = absurd (none-some x e)
  get-within (y ∷ ys) zero x e = omega arith
  get-within (y ∷ ys) (suc n) x e = let l = get-within ys n x e in omega arith

  pub get-last : (xs : List A) (x : A) → slice_get (xs ++ x ∷ []) (length xs) ≡ Some x
  get-last [] x = refl
  get-last (y ∷ ys) x = get-last ys x

  pub get-before : (xs ys : List A) (n : ℕ) (x : A) → slice_get xs n ≡ Some x → slice_get (xs ++ ys) n ≡ Some x
  get-before [] ys n x e = absurd (none-some x e)
  get-before (y ∷ xs) ys zero x e = e
  get-before (y ∷ xs) ys (suc n) x e = get-before xs ys n x e

  pub get-snoc : (xs : List A) (x y : A) (n : ℕ) → slice_get (xs ++ x ∷ []) n ≡ Some y → (slice_get xs n ≡ Some y) ⊎ ((n ≡ length xs) × (x ≡ y))
  get-snoc [] x y zero e = inr (refl, same_Some x y e)
  get-snoc [] x y (suc n) e = absurd (none-some y e)
  get-snoc (z ∷ zs) x y zero e = inl e
  get-snoc (z ∷ zs) x y (suc n) e = elim (get-snoc zs x y n e) [ inl w ↦ inl w | inr w ↦ inr (let q = w.0 in omega arith, w.1) ]

  -- the last of the first elements of a list is an element of the list
  pub popped : (whole front : List A) (x : A) (back : List A) → whole ≡ (front ++ x ∷ []) ++ back → slice_get whole (length front) ≡ Some x
  popped whole front x back e = ap (λ l. slice_get l (length front)) e ∙ get-before (front ++ x ∷ []) back (length front) x (get-last front x)

  -- the first elements of a list
  pub record IsFrontOf (front whole : List A) : Type 0 where
    pub back : List A
    pub whole_is : whole ≡ front ++ back

  pub front-all : (whole : List A) → IsFrontOf whole whole
  front-all whole = record { back = []; whole_is = sym (append-nil whole) }

  pub front-less : (old new whole : List A) (x : A) → old ≡ new ++ x ∷ [] → IsFrontOf old whole → IsFrontOf new whole
  front-less old new whole x e f = record { back = x ∷ f.back; whole_is = f.whole_is ∙ ap (λ l. l ++ f.back) e ∙ append_assoc new (x ∷ []) f.back }

  pub front-at : (old new whole : List A) (x : A) → old ≡ new ++ x ∷ [] → IsFrontOf old whole → slice_get whole (length new) ≡ Some x
  front-at old new whole x e f = popped whole new x f.back (f.whole_is ∙ ap (λ l. l ++ f.back) e)

pub length-more : {A : Type 0} (old new : List A) (x : A) → old ≡ new ++ x ∷ [] → length old ≡ length new + 1
length-more old new x e = let f = ap (λ l. length l) e in let g = length-append new (x ∷ []) in omega arith

pub zip-at : {A B : Type 0} (R : A → B → Type 0) (xs : List A) (ys : List B) (n : ℕ) (x : A) (d : B) → AllZip R xs ys → slice_get xs n ≡ Some x → R x (get_or ys n d)
zip-at R [] ys n x d all e = absurd (none-some x e)
zip-at R (a ∷ rest) [] n x d all e = absurd all
zip-at R (a ∷ rest) (b ∷ bs) zero x d all e = subst (λ y. R y b) (same_Some a x e) all.0
zip-at R (a ∷ rest) (b ∷ bs) (suc n) x d all e = zip-at R rest bs n x d all.1 e

pub zip-length : {A B : Type 0} (R : A → B → Type 0) (xs : List A) (ys : List B) → AllZip R xs ys → length ys ≡ length xs
zip-length R [] [] all = refl
zip-length R [] (b ∷ bs) all = absurd all
zip-length R (a ∷ rest) [] all = absurd all
zip-length R (a ∷ rest) (b ∷ bs) all = ap suc (zip-length R rest bs all.1)

pub at-or-after : (k n : ℕ) → k ≤ n → (n ≡ k) ⊎ (k + 1 ≤ n)
at-or-after k n l = by (nat_lt k n) refl
  where
    by : (b : Bool) → nat_lt k n ≡ b → (n ≡ k) ⊎ (k + 1 ≤ n)
    by true e = let m = ltb-true k n e in inr (omega arith)
    by false e = let m = ltb-false k n e in inl (omega arith)

pub same-or-not : (p q : List (List ℕ)) → (p ≡ q) ⊎ (p ≡ q → ⊥)
same-or-not p q = by (eq_by_cmp path_cmp p q) refl
  where
    by : (b : Bool) → eq_by_cmp path_cmp p q ≡ b → (p ≡ q) ⊎ (p ≡ q → ⊥)
    by true e = inl (path_same p q e)
    by false e = inr (λ same. true≢false (sym (subst (λ (x : List (List ℕ)). eq_by_cmp path_cmp p x ≡ true) same (path_itself p)) ∙ e))

pub planted-here : (at : List (List ℕ) → Option Entry) (path : List (List ℕ)) (meta : Meta) (entry : Entry) → planted at path meta entry path ≡ Some entry
planted-here at path meta entry = ap (λ b. cond b (Some entry) (option_or (at path) (cond (is_front path path) (Some (Directory meta)) None))) (path_itself path)

pub planted-other : (at : List (List ℕ) → Option Entry) (path : List (List ℕ)) (meta : Meta) (entry : Entry) (q : List (List ℕ)) → (q ≡ path → ⊥) → planted at path meta entry q ≡ option_or (at q) (cond (is_front q path) (Some (Directory meta)) None)
planted-other at path meta entry q other =
    ap (λ b. cond b (Some entry) (option_or (at q) (cond (is_front q path) (Some (Directory meta)) None))) (false_from_ne_true (eq_by_cmp path_cmp q path) (λ h. other (path_same q path h)))

-- what stands elsewhere stays
pub planted-kept : (at : List (List ℕ) → Option Entry) (path : List (List ℕ)) (meta : Meta) (entry : Entry) (q : List (List ℕ)) (there : Entry) → (q ≡ path → ⊥) → at q ≡ Some there → planted at path meta entry q ≡ Some there
planted-kept at path meta entry q there other e = planted-other at path meta entry q other ∙ ap (λ o. option_or o (cond (is_front q path) (Some (Directory meta)) None)) e
