-- The search for the first item that passes a test, one item on.
use Rattle.std.proofs.Common.{◌≡◌, ◌<◌, ◌≤◌, ◌+◌, ◌-◌, ◌++◌, ◌∙◌, ℕ, zero, suc, Bool, true, false, List, [], ◌∷◌, Option, Some, None, inl, inr, length, get_or, take, drop, refl, sym, ap, subst, arith, if◌then◌else◌}
use Rattle.std.proofs.lemmas.Bool.{cases_lt}
use Rattle.std.proofs.lemmas.List.{at_drop_more, at_drop_all, drop_more, take_more, get_or_default, length-take-le}
use Rattle.std.proofs.lemmas.Option.{none-some, same_Some}
use Rattle.pointed.specs.First.{first_after, first_that}

-- what the search finds that has come so far
abbrev pub searched : {X : Type 0} → (List X → X → Bool) → List X → ℕ → Option ℕ
searched test xs at = first_after test (take at xs) (drop at xs)

here : {X : Type 0} (test : List X → X → Bool) (xs : List X) (at : ℕ) (d : X) → at < length xs
    → searched test xs at ≡ (if test (take (at + 1) xs) (get_or xs at d) then Some at else searched test xs (at + 1))
here test xs at d l =
    let front : take at xs ++ get_or xs at d ∷ [] ≡ take (at + 1) xs = sym (take_more xs at d l) in
    let count : length (take at xs) ≡ at = length-take-le at xs (omega arith) in
    at_drop_more (first_after test (take at xs)) xs at d l
    ∙ (λ i. if test (front i) (get_or xs at d) then Some (count i) else first_after test (front i) (drop (at + 1) xs))

-- the item there doesn't pass
pub searched-more : {X : Type 0} (test : List X → X → Bool) (xs : List X) (at : ℕ) (d : X) → at < length xs
    → test (take (at + 1) xs) (get_or xs at d) ≡ false → searched test xs at ≡ searched test xs (at + 1)
searched-more test xs at d l h = here test xs at d l ∙ ap (λ t. if t then Some at else searched test xs (at + 1)) h

-- it passes
pub searched-found : {X : Type 0} (test : List X → X → Bool) (xs : List X) (at : ℕ) (d : X) → at < length xs
    → test (take (at + 1) xs) (get_or xs at d) ≡ true → searched test xs at ≡ Some at
searched-found test xs at d l h = here test xs at d l ∙ ap (λ t. if t then Some at else searched test xs (at + 1)) h

-- there is none
pub searched-none : {X : Type 0} (test : List X → X → Bool) (xs : List X) (at : ℕ) → length xs ≤ at → searched test xs at ≡ None
searched-none test xs at l = at_drop_all (first_after test (take at xs)) xs at l

-- an item alone, as a part of a list
pub alone : {X : Type 0} (xs : List X) (at : ℕ) (d : X) → at < length xs → take ((at + 1) - at) (drop at xs) ≡ get_or xs at d ∷ []
alone xs at d l =
    let one : (at + 1) - at ≡ 1 = omega arith in
    ap (λ n. take n (drop at xs)) one ∙ ap (take 1) (drop_more xs at d l)

-- ---- what is found is the first item that passes

pub record IsFirst {X : Type 0} (test : List X → X → Bool) (xs : List X) (number : ℕ) : Type 0 where
  pub inside : number < length xs
  pub passes : (d : X) → test (take (number + 1) xs) (get_or xs number d) ≡ true
  pub before : (k : ℕ) (d : X) → k < number → test (take (k + 1) xs) (get_or xs k d) ≡ false

item : {X : Type 0} (xs : List X) → 0 < length xs → X
item [] l = absurd (omega (arith, l))
item (x ∷ xs) l = x

another : {X : Type 0} (test : List X → X → Bool) (xs : List X) (at : ℕ) (d e : X) (b : Bool) → at < length xs
    → test (take (at + 1) xs) (get_or xs at d) ≡ b → test (take (at + 1) xs) (get_or xs at e) ≡ b
another test xs at d e b l h = ap (test (take (at + 1) xs)) (get_or_default xs at e d l) ∙ h

-- none of the first items passes
abbrev pub NonePass : {X : Type 0} → (List X → X → Bool) → List X → ℕ → Type 0
NonePass {X} test xs at = (k : ℕ) (d : X) → k < at → test (take (k + 1) xs) (get_or xs k d) ≡ false

none-more : {X : Type 0} (test : List X → X → Bool) (xs : List X) (at : ℕ) (d : X) → at < length xs → test (take (at + 1) xs) (get_or xs at d) ≡ false
    → NonePass test xs at → NonePass test xs (at + 1)
none-more test xs at d l h none k e m = elim (cases_lt k at) [
  | inl less ↦ none k e less
  | inr more ↦
      let same : at ≡ k = omega arith in
      subst (λ (n : ℕ). test (take (n + 1) xs) (get_or xs n e) ≡ false) same (another test xs at d e false l h)
]

first_by : {X : Type 0} (test : List X → X → Bool) (xs : List X) (number at : ℕ) (d : X) (b : Bool) → at < length xs
    → test (take (at + 1) xs) (get_or xs at d) ≡ b → NonePass test xs at → searched test xs at ≡ Some number
    → (NonePass test xs (at + 1) → searched test xs (at + 1) ≡ Some number → IsFirst test xs number) → IsFirst test xs number
first_by test xs number at d true l h none e go =
    subst (IsFirst test xs) (same_Some at number (sym (searched-found test xs at d l h) ∙ e))
    (record { inside = l; passes = λ f. another test xs at d f true l h; before = none })
first_by test xs number at d false l h none e go = go (none-more test xs at d l h none) (sym (searched-more test xs at d l h) ∙ e)

first-from : {X : Type 0} (test : List X → X → Bool) (xs : List X) (number fuel at : ℕ) → length xs ≡ at + fuel → NonePass test xs at
    → searched test xs at ≡ Some number → IsFirst test xs number
first-from test xs number zero at long none e = absurd (none-some number (sym (searched-none test xs at (omega (arith, long))) ∙ e))
first-from test xs number (suc fuel) at long none e =
    let l : at < length xs = omega (arith, long) in
    let d = item xs (omega (arith, l)) in
    first_by test xs number at d (test (take (at + 1) xs) (get_or xs at d)) l refl none e (first-from test xs number fuel (at + 1) (omega (arith, long)))

pub first-is : {X : Type 0} (test : List X → X → Bool) (xs : List X) (number : ℕ) → first_that test xs ≡ Some number → IsFirst test xs number
first-is test xs number e = first-from test xs number (length xs) 0 (omega arith) (λ k d l. absurd (omega (arith, l))) e

-- where nothing is found, none passes

last_by : {X : Type 0} (test : List X → X → Bool) (xs : List X) (at : ℕ) (d : X) (b : Bool) → at < length xs
    → test (take (at + 1) xs) (get_or xs at d) ≡ b → NonePass test xs at → searched test xs at ≡ None
    → (NonePass test xs (at + 1) → searched test xs (at + 1) ≡ None → NonePass test xs (length xs)) → NonePass test xs (length xs)
last_by test xs at d true l h none e go = absurd (none-some at (sym e ∙ searched-found test xs at d l h))
last_by test xs at d false l h none e go = go (none-more test xs at d l h none) (sym (searched-more test xs at d l h) ∙ e)

none-from : {X : Type 0} (test : List X → X → Bool) (xs : List X) (fuel at : ℕ) → length xs ≡ at + fuel → NonePass test xs at
    → searched test xs at ≡ None → NonePass test xs (length xs)
none-from test xs zero at long none e = λ k d l. none k d (omega (arith, long, l))
none-from test xs (suc fuel) at long none e =
    let l : at < length xs = omega (arith, long) in
    let d = item xs (omega (arith, l)) in
    last_by test xs at d (test (take (at + 1) xs) (get_or xs at d)) l refl none e (none-from test xs fuel (at + 1) (omega (arith, long)))

pub none-is : {X : Type 0} (test : List X → X → Bool) (xs : List X) → first_that test xs ≡ None → NonePass test xs (length xs)
none-is test xs e = none-from test xs (length xs) 0 (omega arith) (λ k d l. absurd (omega (arith, l))) e
