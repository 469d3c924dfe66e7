-- Laws of the least fault: there is just one where there is a fault.
use Rattle.std.specs.Prelude.{◌≡◌, ◌<◌, ◌≤◌, ◌⊎◌, ℕ, ◌++◌, Bool, true, false, List, [], ◌∷◌, ◌==◌, ◌||◌, ◌&&◌, nat_lt, nat_le, if◌then◌else◌, refl}
use Rattle.std.proofs.Common.{sym, ◌∙◌, ap, ap₂, subst, inl, inr, arith}
use Rattle.std.proofs.lemmas.Bool.Decides.{nat_tests}
use Rattle.plain.specs.Codes.{number_of}
use Rattle.plain.specs.declared.refusal.Code.{Code}
use Rattle.plain.specs.declared.refusal.Code.TheVariants.{R01, R02, R03, R04, R05, R06, R07, R08, R09, R10, R11, R12, R13, R14, R15, R16, R17, R18, R19, R20}
use Rattle.plain.specs.declared.refusal.Refusal.{Refusal}
use Rattle.lines.specs.Faults.{refusal, IsAmong, IsNotBehind, IsBehindNone, IsLeast}

-- a code's number tells the code

abbrev code_of : ℕ → Code
code_of n = if n == 1 then R01 else (if n == 2 then R02 else (if n == 3 then R03 else (if n == 4 then R04 else (if n == 5 then R05
    else (if n == 6 then R06 else (if n == 7 then R07 else (if n == 8 then R08 else (if n == 9 then R09 else (if n == 10 then R10
    else (if n == 11 then R11 else (if n == 12 then R12 else (if n == 13 then R13 else (if n == 14 then R14 else (if n == 15 then R15
    else (if n == 16 then R16 else (if n == 17 then R17 else (if n == 18 then R18 else (if n == 19 then R19 else R20))))))))))))))))))

code_of-number : (c : Code) → code_of (number_of c) ≡ c
code_of-number R01 = refl
code_of-number R02 = refl
code_of-number R03 = refl
code_of-number R04 = refl
code_of-number R05 = refl
code_of-number R06 = refl
code_of-number R07 = refl
code_of-number R08 = refl
code_of-number R09 = refl
code_of-number R10 = refl
code_of-number R11 = refl
code_of-number R12 = refl
code_of-number R13 = refl
code_of-number R14 = refl
code_of-number R15 = refl
code_of-number R16 = refl
code_of-number R17 = refl
code_of-number R18 = refl
code_of-number R19 = refl
code_of-number R20 = refl

number_of-one : (a b : Code) → number_of a ≡ number_of b → a ≡ b
number_of-one a b e = sym (code_of-number a) ∙ ap code_of e ∙ code_of-number b

refusal_from : (f g : Refusal) → f.line ≡ g.line → f.code ≡ g.code → f ≡ g
refusal_from f g l c = ap₂ refusal c l

same_place : (f g : Refusal) → IsNotBehind f g → IsNotBehind g f → (f.line ≡ g.line) × (number_of f.code ≡ number_of g.code)
same_place f g h i = (omega (arith, h, i), omega (arith, h, i))

behind_same : (f g : Refusal) → IsNotBehind f g → IsNotBehind g f → f ≡ g
behind_same f g h i =
    let p = same_place f g h i in
    refusal_from f g p.0 (number_of-one f.code g.code p.1)

pub at_one : (f g : Refusal) (fs : List Refusal) → IsBehindNone f fs → IsAmong g fs → IsNotBehind f g
at_one f g [] h i = absurd i
at_one f g (x ∷ xs) h i = elim i [ inl e ↦ subst (IsNotBehind f) (sym e) h.0 | inr r ↦ at_one f g xs h.1 r ]

-- two that are told are one
pub IsLeast-same : (fs : List Refusal) (f g : Refusal) → IsLeast fs f → IsLeast fs g → f ≡ g
IsLeast-same fs f g h i = behind_same f g (at_one f g fs h.1 i.0) (at_one g f fs i.1 h.0)

-- of two, one doesn't come after the other

behind_self : (f : Refusal) → IsNotBehind f f
behind_self f = inr (refl, omega arith)

-- by the numbers alone, the test's value handed in
first_by : (l m a b : ℕ) (t : Bool) → (nat_lt l m || ((l == m) && nat_le a b)) ≡ t → ((l < m) ⊎ ((l ≡ m) × (a ≤ b))) ⊎ ((m < l) ⊎ ((m ≡ l) × (b ≤ a)))
first_by l m a b true h = inl (grind (arith, nat_tests))
first_by l m a b false h = inr (grind (arith, nat_tests))

one_first : (f g : Refusal) → IsNotBehind f g ⊎ IsNotBehind g f
one_first f g = first_by f.line g.line (number_of f.code) (number_of g.code) (nat_lt f.line g.line || ((f.line == g.line) && nat_le (number_of f.code) (number_of g.code))) refl

trans_by : (l m n a b c : ℕ) → (l < m) ⊎ ((l ≡ m) × (a ≤ b)) → (m < n) ⊎ ((m ≡ n) × (b ≤ c)) → (l < n) ⊎ ((l ≡ n) × (a ≤ c))
trans_by l m n a b c h i = grind arith

behind_trans : (f g h : Refusal) → IsNotBehind f g → IsNotBehind g h → IsNotBehind f h
behind_trans f g h a b = trans_by f.line g.line h.line (number_of f.code) (number_of g.code) (number_of h.code) a b

behind_all : (f g : Refusal) (fs : List Refusal) → IsNotBehind f g → IsBehindNone g fs → IsBehindNone f fs
behind_all f g [] h i = tt
behind_all f g (x ∷ xs) h i = (behind_trans f g x h i.0, behind_all f g xs h i.1)

-- the least of a list and of one more

behind_more : (f g : Refusal) (fs : List Refusal) → IsBehindNone f fs → IsNotBehind f g → IsBehindNone f (fs ++ g ∷ [])
behind_more f g [] h i = (i, tt)
behind_more f g (x ∷ xs) h i = (h.0, behind_more f g xs h.1 i)

among_before : (f g : Refusal) (fs : List Refusal) → IsAmong f fs → IsAmong f (fs ++ g ∷ [])
among_before f g [] h = absurd h
among_before f g (x ∷ xs) (inl e) = inl e
among_before f g (x ∷ xs) (inr h) = inr (among_before f g xs h)

among_last : (g : Refusal) (fs : List Refusal) → IsAmong g (fs ++ g ∷ [])
among_last g [] = inl refl
among_last g (x ∷ xs) = inr (among_last g xs)

-- the least so far stays, or gives way to one that is before it
pub IsLeast-stays : (fs : List Refusal) (f g : Refusal) → IsLeast fs f → IsNotBehind f g → IsLeast (fs ++ g ∷ []) f
IsLeast-stays fs f g h i = (among_before f g fs h.0, behind_more f g fs h.1 i)

pub IsLeast-yields : (fs : List Refusal) (f g : Refusal) → IsLeast fs f → IsNotBehind g f → IsLeast (fs ++ g ∷ []) g
IsLeast-yields fs f g h i = (among_last g fs, behind_more g g fs (behind_all g f fs i h.1) (behind_self g))

pub IsLeast-lone : (fs : List Refusal) (g : Refusal) → fs ≡ [] → IsLeast (fs ++ g ∷ []) g
IsLeast-lone fs g h = subst (λ (xs : List Refusal). IsLeast (xs ++ g ∷ []) g) (sym h) (inl refl, (behind_self g, tt))

-- there is one to tell exactly where there is a fault

least_of_two : (f g : Refusal) (fs : List Refusal) → IsLeast fs g → IsNotBehind f g ⊎ IsNotBehind g f → (x : Refusal) × IsLeast (f ∷ fs) x
least_of_two f g fs h (inl i) = (f, (inl refl, (behind_self f, behind_all f g fs i h.1)))
least_of_two f g fs h (inr i) = (g, (inr h.0, (i, h.1)))

least_more : (f : Refusal) (fs : List Refusal) → (fs ≡ []) ⊎ ((g : Refusal) × IsLeast fs g) → (x : Refusal) × IsLeast (f ∷ fs) x
least_more f fs (inl e) = subst (λ (xs : List Refusal). (x : Refusal) × IsLeast (f ∷ xs) x) (sym e) (f, (inl refl, (behind_self f, tt)))
least_more f fs (inr h) = least_of_two f h.0 fs h.1 (one_first f h.0)

pub none_or_least : (fs : List Refusal) → (fs ≡ []) ⊎ ((f : Refusal) × IsLeast fs f)
none_or_least [] = inl refl
none_or_least (f ∷ fs) = inr (least_more f fs (none_or_least fs))
