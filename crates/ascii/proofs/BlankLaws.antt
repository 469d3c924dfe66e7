-- Laws of blanks: what one more or less at an end of a text changes.
use Rattle.std.proofs.Common.{◌≡◌, ℕ, ◌+◌, ◌<◌, true, false, List, [], ◌∷◌, ◌++◌, length, take, drop, get_or, refl, ap, ◌∙◌, sym, if◌then◌else◌, Bool, arith}
use Rattle.std.proofs.lemmas.List.{take_more, at_drop_more}
use Rattle.std.proofs.lemmas.Bool.Decides.{nat_tests}
use Rattle.ascii.specs.Blanks.{is_blank, after_blanks, before_blanks, unless_trailing}

pub blank_is_ascii : (c : ℕ) → is_blank c ≡ true → c < 128
blank_is_ascii c h = grind (arith, nat_tests)

unless_trailing-snoc : (x : ℕ) (xs : List ℕ) (c : ℕ) → unless_trailing x (xs ++ c ∷ []) ≡ x ∷ (xs ++ c ∷ [])
unless_trailing-snoc x [] c = refl
unless_trailing-snoc x (y ∷ ys) c = refl

pub before_blanks-more : (xs : List ℕ) (c : ℕ) → is_blank c ≡ true → before_blanks (xs ++ c ∷ []) ≡ before_blanks xs
before_blanks-more [] c h = rw h refl
before_blanks-more (x ∷ xs) c h = ap (unless_trailing x) (before_blanks-more xs c h)

pub before_blanks-kept : (xs : List ℕ) (c : ℕ) → is_blank c ≡ false → before_blanks (xs ++ c ∷ []) ≡ xs ++ c ∷ []
before_blanks-kept [] c h = rw h refl
before_blanks-kept (x ∷ xs) c h = ap (unless_trailing x) (before_blanks-kept xs c h) ∙ unless_trailing-snoc x xs c

pub before_blanks-step : (xs : List ℕ) (m n : ℕ) → m ≡ n + 1 → n < length xs → is_blank (get_or xs n 0) ≡ true → before_blanks (take n xs) ≡ before_blanks (take m xs)
before_blanks-step xs m n e l h = sym (ap (λ k. before_blanks (take k xs)) e ∙ ap before_blanks (take_more xs n 0 l) ∙ before_blanks-more (take n xs) (get_or xs n 0) h)

pub before_blanks-stop : (xs : List ℕ) (m n : ℕ) → m ≡ n + 1 → n < length xs → is_blank (get_or xs n 0) ≡ false → before_blanks (take m xs) ≡ take m xs
before_blanks-stop xs m n e l h =
    let t : take m xs ≡ take n xs ++ get_or xs n 0 ∷ [] = ap (λ k. take k xs) e ∙ take_more xs n 0 l in
    ap before_blanks t ∙ before_blanks-kept (take n xs) (get_or xs n 0) h ∙ sym t

after_blanks-cons : (c : ℕ) (cs : List ℕ) → is_blank c ≡ true → after_blanks (c ∷ cs) ≡ after_blanks cs
after_blanks-cons c cs h = rw h refl

pub after_blanks-step : (xs : List ℕ) (i : ℕ) → i < length xs → is_blank (get_or xs i 0) ≡ true → after_blanks (drop (i + 1) xs) ≡ after_blanks (drop i xs)
after_blanks-step xs i l h = sym (at_drop_more after_blanks xs i 0 l ∙ after_blanks-cons (get_or xs i 0) (drop (i + 1) xs) h)

after_blanks-twice_by : (c : ℕ) (cs : List ℕ) (b : Bool) → is_blank c ≡ b → after_blanks (after_blanks cs) ≡ after_blanks cs
    → after_blanks (if b then after_blanks cs else c ∷ cs) ≡ (if b then after_blanks cs else c ∷ cs)
after_blanks-twice_by c cs true h i = i
after_blanks-twice_by c cs false h i = rw h refl

-- a text without leading blanks has none to lose
pub after_blanks-twice : (text : List ℕ) → after_blanks (after_blanks text) ≡ after_blanks text
after_blanks-twice [] = refl
after_blanks-twice (c ∷ cs) = after_blanks-twice_by c cs (is_blank c) refl (after_blanks-twice cs)
