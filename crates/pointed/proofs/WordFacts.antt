-- The pieces of a text that are words, up to the first one that may be a part of a word.
use Rattle.std.proofs.Common.{◌≡◌, ◌<◌, ◌≤◌, ◌+◌, ◌++◌, ◌∙◌, ℕ, Bool, true, false, List, [], ◌∷◌, cond, length, get_or, take, drop, sym, ap, append-nil, append_assoc}
use Rattle.std.specs.List.{take_while}
use Rattle.std.proofs.lemmas.List.{at_drop_more, at_drop_all, take_more}
use Rattle.std.proofs.lemmas.List.Sums.{take_while-cons}

-- the items up to here pass, and those from here on are what is left to look at
abbrev pub IsFront : {X : Type 0} → (X → Bool) → List X → ℕ → Type 0
IsFront test xs at = take at xs ++ take_while test (drop at xs) ≡ take_while test xs

rest-is : {X : Type 0} (test : X → Bool) (xs : List X) (at : ℕ) (d : X) → at < length xs
    → take_while test (drop at xs) ≡ cond (test (get_or xs at d)) (get_or xs at d ∷ take_while test (drop (at + 1) xs)) []
rest-is test xs at d l = at_drop_more (take_while test) xs at d l ∙ take_while-cons test (get_or xs at d) (drop (at + 1) xs)

pub front-more : {X : Type 0} (test : X → Bool) (xs : List X) (at : ℕ) (d : X) → at < length xs → test (get_or xs at d) ≡ true → IsFront test xs at
    → IsFront test xs (at + 1)
front-more test xs at d l h front =
    ap (λ ys. ys ++ take_while test (drop (at + 1) xs)) (take_more xs at d l)
    ∙ append_assoc (take at xs) (get_or xs at d ∷ []) (take_while test (drop (at + 1) xs))
    ∙ ap (λ ys. take at xs ++ ys)
    (sym (rest-is test xs at d l ∙ ap (λ t. cond t (get_or xs at d ∷ take_while test (drop (at + 1) xs)) []) h))
    ∙ front

pub front-ends : {X : Type 0} (test : X → Bool) (xs : List X) (at : ℕ) (d : X) → at < length xs → test (get_or xs at d) ≡ false → IsFront test xs at
    → take at xs ≡ take_while test xs
front-ends test xs at d l h front =
    sym (append-nil (take at xs))
    ∙ ap (λ ys. take at xs ++ ys)
    (sym (rest-is test xs at d l ∙ ap (λ t. cond t (get_or xs at d ∷ take_while test (drop (at + 1) xs)) []) h))
    ∙ front

pub front-all : {X : Type 0} (test : X → Bool) (xs : List X) (at : ℕ) → length xs ≤ at → IsFront test xs at → take at xs ≡ take_while test xs
front-all test xs at l front =
    sym (append-nil (take at xs)) ∙ ap (λ ys. take at xs ++ ys) (sym (at_drop_all (take_while test) xs at l)) ∙ front
