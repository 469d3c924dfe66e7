-- The first item of a list that passes a test, and the items before it.
use Rattle.std.proofs.Common.{◌≡◌, ◌<◌, ◌+◌, ◌++◌, ◌&&◌, ◌||◌, ◌∙◌, ℕ, suc, Bool, true, false, not, List, [], ◌∷◌, cond, length, get_or, take, refl, sym, ap, subst, arith, append_assoc}
use Rattle.std.specs.List.{list_all, list_any, take_while}
use Rattle.std.proofs.Math.Seq.{get_or-append_seam}
use Rattle.std.proofs.lemmas.List.{length-append, take_at}
use Rattle.std.proofs.lemmas.List.Sums.{take_while-cons}
use Rattle.pointed.proofs.FirstFacts.{IsFirst, NonePass}

-- ---- what a list begins with that passes a test

-- it reaches to an item, so this one passes and all before it
pub record Reaches {X : Type 0} (test : X → Bool) (front : List X) (x : X) (found : List X) : Type 0 where
  pub before : list_all test front ≡ true
  pub is : test x ≡ true
  pub rest : List X
  pub found_is : found ≡ front ++ x ∷ rest

reaches_one : {X : Type 0} (test : X → Bool) (x : X) (more : List X) (b : Bool) → test x ≡ b → 0 < length (cond b (x ∷ take_while test more) [])
    → Reaches test [] x (cond b (x ∷ take_while test more) [])
reaches_one test x more true e l = record { before = refl; is = e; rest = take_while test more; found_is = refl }
reaches_one test x more false e l = absurd (omega (arith, l))

reaches_more : {X : Type 0} (test : X → Bool) (y : X) (ys : List X) (x : X) (more : List X) (b : Bool) → test y ≡ b
    → suc (length ys) < length (cond b (y ∷ take_while test (ys ++ x ∷ more)) [])
    → (length ys < length (take_while test (ys ++ x ∷ more)) → Reaches test ys x (take_while test (ys ++ x ∷ more)))
    → Reaches test (y ∷ ys) x (cond b (y ∷ take_while test (ys ++ x ∷ more)) [])
reaches_more test y ys x more true e l go =
    let later = go (omega (arith, l)) in
    record {
      before = λ i. e i && later.before i;
      is = later.is;
      rest = later.rest;
      found_is = ap (λ xs. y ∷ xs) later.found_is;
    }
reaches_more test y ys x more false e l go = absurd (omega (arith, l))

pub reaches : {X : Type 0} (test : X → Bool) (front : List X) (x : X) (more : List X) → length front < length (take_while test (front ++ x ∷ more))
    → Reaches test front x (take_while test (front ++ x ∷ more))
reaches test [] x more l =
    subst (Reaches test [] x) (sym (take_while-cons test x more))
    (reaches_one test x more (test x) refl (subst (λ xs. 0 < length xs) (take_while-cons test x more) l))
reaches test (y ∷ ys) x more l =
    subst (Reaches test (y ∷ ys) x) (sym (take_while-cons test y (ys ++ x ∷ more)))
    (reaches_more test y ys x more (test y) refl (subst (λ xs. suc (length ys) < length xs) (take_while-cons test y (ys ++ x ∷ more)) l) (reaches test ys x more))

-- ---- the first item that passes, of which the items before it are known

pub with-it : {X : Type 0} (front : List X) (x : X) (rest : List X) (number : ℕ) → length front ≡ number → take (number + 1) (front ++ x ∷ rest) ≡ front ++ x ∷ []
with-it front x rest number count =
    let long : length (front ++ x ∷ []) ≡ number + 1 = length-append front (x ∷ []) ∙ ap (λ n. n + 1) count in
    ap (take (number + 1)) (sym (append_assoc front (x ∷ []) rest)) ∙ take_at (front ++ x ∷ []) rest (number + 1) long

pub passes-here : {X : Type 0} (test : List X → X → Bool) (front : List X) (x : X) (rest : List X) (number : ℕ) → length front ≡ number
    → IsFirst test (front ++ x ∷ rest) number → test (front ++ x ∷ []) x ≡ true
passes-here test front x rest number count first =
    let here : get_or (front ++ x ∷ rest) number x ≡ x = ap (λ n. get_or (front ++ x ∷ rest) n x) (sym count) ∙ get_or-append_seam front x rest x in
    (λ i. test (sym (with-it front x rest number count) i) (sym here i)) ∙ first.passes x

none-to : {X : Type 0} (test : X → Bool) (front rest : List X) → NonePass (λ begun x. test x) (front ++ rest) (length front) → list_any test front ≡ false
none-to test [] rest none = refl
none-to test (x ∷ xs) rest none =
    let here : test x ≡ false = none 0 x (omega arith) in
    let later : list_any test xs ≡ false = none-to test xs rest (λ k d l. none (suc k) d (omega (arith, l))) in
    λ i. here i || later i

pub none-before : {X : Type 0} (test : X → Bool) (front : List X) (x : X) (rest : List X) (number : ℕ) → length front ≡ number
    → IsFirst (λ begun x. test x) (front ++ x ∷ rest) number → list_any test front ≡ false
none-before test front x rest number count first =
    none-to test front (x ∷ rest) (subst (NonePass (λ begun x. test x) (front ++ x ∷ rest)) (sym count) first.before)

all_by : {X : Type 0} (test : X → Bool) (xs : List X) (b : Bool) → (not b || list_any (λ x. not (test x)) xs) ≡ false
    → (list_any (λ x. not (test x)) xs ≡ false → list_all test xs ≡ true) → (b && list_all test xs) ≡ true
all_by test xs true e go = go e
all_by test xs false e go = absurd (let no : true ≡ false = e in cc)

-- where none fails, all pass
pub all-pass : {X : Type 0} (test : X → Bool) (xs : List X) → list_any (λ x. not (test x)) xs ≡ false → list_all test xs ≡ true
all-pass test [] e = refl
all-pass test (x ∷ xs) e = all_by test xs (test x) e (all-pass test xs)
