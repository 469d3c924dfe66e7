-- Lemmas on texts of blanks alone: what logical lines join to is empty where all that was joined is blank.
use Rattle.std.specs.Prelude.{◌≡◌, ◌≢◌, ℕ, ◌==◌, ◌&&◌, ◌||◌, not, Bool, true, false, List, [], ◌∷◌, ◌++◌, length, if◌then◌else◌, refl}
use Rattle.std.proofs.Common.{◌∙◌, sym, ap, arith}
use Rattle.std.proofs.lemmas.Bool.Decides.{nat_tests}
use Rattle.ascii.specs.Blanks.{is_blank, after_blanks, before_blanks, unless_trailing, trimmed}
use Rattle.lines.specs.Blanks.{is_blank_line}

not_none : (c : ℕ) (cs : List ℕ) → (length (c ∷ cs) == 0) ≡ false
not_none c cs = grind (arith, nat_tests)

blank_by : (c : ℕ) (a b : List ℕ) (t : Bool) → is_blank c ≡ t → is_blank_line (a ++ b) ≡ (is_blank_line a && is_blank_line b)
    → is_blank_line ((c ∷ a) ++ b) ≡ (is_blank_line (c ∷ a) && is_blank_line b)
blank_by c a b true e h =
    ap (λ t. length (if t then after_blanks (a ++ b) else c ∷ (a ++ b)) == 0) e ∙ h
    ∙ sym (ap (λ t. (length (if t then after_blanks a else c ∷ a) == 0) && is_blank_line b) e)
blank_by c a b false e h =
    ap (λ t. length (if t then after_blanks (a ++ b) else c ∷ (a ++ b)) == 0) e ∙ not_none c (a ++ b)
    ∙ sym (ap (λ t. (length (if t then after_blanks a else c ∷ a) == 0) && is_blank_line b) e ∙ ap (λ t. t && is_blank_line b) (not_none c a))

pub blank_append : (a b : List ℕ) → is_blank_line (a ++ b) ≡ (is_blank_line a && is_blank_line b)
blank_append [] b = refl
blank_append (c ∷ a) b = blank_by c a b (is_blank c) refl (blank_append a b)

-- a line past the limit is one with text, and it has some as soon as one of its parts has
says_by : (full a b : Bool) → ((full && not a) || (full && not b)) ≡ (full && not (a && b))
says_by true true b = refl
says_by true false true = refl
says_by true false false = refl
says_by false true b = refl
says_by false false b = refl

pub says_more : (full : Bool) (a b : List ℕ) → ((full && not (is_blank_line a)) || (full && not (is_blank_line b))) ≡ (full && not (is_blank_line (a ++ b)))
says_more full a b = says_by full (is_blank_line a) (is_blank_line b) ∙ ap (λ t. full && not t) (sym (blank_append a b))

-- blanks alone are nothing without them

empty_by : (text : List ℕ) (t : List ℕ) → after_blanks text ≡ t → is_blank_line text ≡ true → t ≡ []
empty_by text [] e h = refl
empty_by text (c ∷ cs) e h = let no : is_blank_line text ≡ false = ap (λ (x : List ℕ). length x == 0) e ∙ not_none c cs in cc

pub blank_trimmed : (text : List ℕ) → is_blank_line text ≡ true → trimmed text ≡ []
blank_trimmed text h = ap before_blanks (empty_by text (after_blanks text) refl h)

-- and any other text is something

kept_by : (c : ℕ) (rest : List ℕ) → is_blank c ≡ false → unless_trailing c rest ≢ []
kept_by c [] e = λ h. let s : c ∷ [] ≡ [] = sym (ap (λ t. if t then [] else c ∷ []) e) ∙ h in cc
kept_by c (d ∷ ds) e = λ h. cc

-- what is without its leading blanks begins with no blank
first_by : (c : ℕ) (text : List ℕ) (b : Bool) → is_blank c ≡ b → ((d : ℕ) (ds : List ℕ) → after_blanks text ≡ d ∷ ds → is_blank d ≡ false)
    → (d : ℕ) (ds : List ℕ) → after_blanks (c ∷ text) ≡ d ∷ ds → is_blank d ≡ false
first_by c text true e h = λ d ds i. h d ds (sym (ap (λ t. if t then after_blanks text else c ∷ text) e) ∙ i)
first_by c text false e h = λ d ds i. let s : c ∷ text ≡ d ∷ ds = sym (ap (λ t. if t then after_blanks text else c ∷ text) e) ∙ i in let same : c ≡ d = cc in ap is_blank (sym same) ∙ e

first_kept : (text : List ℕ) (d : ℕ) (ds : List ℕ) → after_blanks text ≡ d ∷ ds → is_blank d ≡ false
first_kept [] d ds i = cc
first_kept (c ∷ text) d ds i = first_by c text (is_blank c) refl (first_kept text) d ds i

says_trimmed_by : (text t : List ℕ) → after_blanks text ≡ t → is_blank_line text ≡ false → before_blanks t ≢ []
says_trimmed_by text [] e h = λ i. let yes : is_blank_line text ≡ true = ap (λ (x : List ℕ). length x == 0) e in cc
says_trimmed_by text (c ∷ cs) e h = kept_by c (before_blanks cs) (first_kept text c cs e)

pub says_trimmed : (text : List ℕ) → is_blank_line text ≡ false → trimmed text ≢ []
says_trimmed text h = says_trimmed_by text (after_blanks text) refl h
