-- Laws of the least code: the first of the codes in ascending order that is due is the least, and none is due where there is
-- no such one.
use Rattle.std.specs.Prelude.{◌≡◌, ◌≤◌, ◌⊎◌, ℕ, Bool, true, false, List, [], ◌∷◌, Some, None, if◌then◌else◌, refl}
use Rattle.std.proofs.Common.{sym, ◌∙◌, ap, subst, inl, inr, arith}
use Rattle.std.proofs.lemmas.Bool.{true≢false}
use Rattle.plain.specs.Codes.{number_of}
use Rattle.plain.specs.declared.refusal.Code.{Code}
use Rattle.plain.specs.declared.refusal.Code.TheVariants.{R01, R02, R03, R04, R05, R06, R07, R08, R09, R10, R11, R12, R13, R14, R15, R16, R17, R18, R19, R20}
use Rattle.instructions.specs.Least.{all_codes, first_due, least, IsLeast}

-- a code is one of a list
abbrev IsIn : Code → List Code → Type 0
IsIn d [] = ⊥
IsIn d (c ∷ cs) = (d ≡ c) ⊎ IsIn d cs

-- the numbers of codes are n at least and ascend
abbrev Ascend : ℕ → List Code → Type 0
Ascend n [] = Unit {0}
Ascend n (c ∷ cs) = (n ≤ number_of c) × Ascend (number_of c) cs

above : (n : ℕ) (cs : List Code) (d : Code) → Ascend n cs → IsIn d cs → n ≤ number_of d
above n [] d a i = absurd i
above n (c ∷ cs) d a (inl e) = omega (arith, a.0, ap number_of e)
above n (c ∷ cs) d a (inr i) = let h : number_of c ≤ number_of d = above (number_of c) cs d a.1 i in omega (arith, a.0, h)

none_some : (c : Code) → None ≡ Some c → ⊥
none_some c e = cc

some_none : (c : Code) → Some c ≡ None → ⊥
some_none c e = cc

-- the first that is due is due

due_by : (due : Code → Bool) (x : Code) (xs : List Code) (c : Code) (b : Bool) → due x ≡ b → (if b then Some x else first_due due xs) ≡ Some c
    → (first_due due xs ≡ Some c → due c ≡ true) → due c ≡ true
due_by due x xs c true e h ih = let s : x ≡ c = cc in subst (λ (y : Code). due y ≡ true) s e
due_by due x xs c false e h ih = ih h

first_is_due : (due : Code → Bool) (cs : List Code) (c : Code) → first_due due cs ≡ Some c → due c ≡ true
first_is_due due [] c h = absurd (none_some c h)
first_is_due due (x ∷ xs) c h = due_by due x xs c (due x) refl h (first_is_due due xs c)

-- and none before it is

first_by : (due : Code → Bool) (n : ℕ) (x : Code) (xs : List Code) (c d : Code) (b : Bool) → due x ≡ b → Ascend n (x ∷ xs) → IsIn d (x ∷ xs) → due d ≡ true
    → (if b then Some x else first_due due xs) ≡ Some c → (IsIn d xs → first_due due xs ≡ Some c → number_of c ≤ number_of d) → number_of c ≤ number_of d
first_by due n x xs c d true e a (inl i) g h ih = let s : x ≡ c = cc in omega (arith, ap number_of s, ap number_of i)
first_by due n x xs c d true e a (inr i) g h ih = let s : x ≡ c = cc in omega (arith, ap number_of s, above (number_of x) xs d a.1 i)
first_by due n x xs c d false e a (inl i) g h ih = absurd (true≢false (sym g ∙ ap due i ∙ e))
first_by due n x xs c d false e a (inr i) g h ih = ih i h

first_is_least : (due : Code → Bool) (n : ℕ) (cs : List Code) (c d : Code) → Ascend n cs → IsIn d cs → due d ≡ true → first_due due cs ≡ Some c → number_of c ≤ number_of d
first_is_least due n [] c d a i g h = absurd i
first_is_least due n (x ∷ xs) c d a i g h = first_by due n x xs c d (due x) refl a i g h (λ j k. first_is_least due (number_of x) xs c d a.1 j g k)

-- where there is none, none is due

none_by : (due : Code → Bool) (x : Code) (xs : List Code) (d : Code) (b : Bool) → due x ≡ b → IsIn d (x ∷ xs)
    → (if b then Some x else first_due due xs) ≡ None → (IsIn d xs → first_due due xs ≡ None → due d ≡ false) → due d ≡ false
none_by due x xs d true e i h ih = absurd (some_none x h)
none_by due x xs d false e (inl i) h ih = ap due i ∙ e
none_by due x xs d false e (inr i) h ih = ih i h

none_is_due : (due : Code → Bool) (cs : List Code) (d : Code) → IsIn d cs → first_due due cs ≡ None → due d ≡ false
none_is_due due [] d i h = absurd i
none_is_due due (x ∷ xs) d i h = none_by due x xs d (due x) refl i h (none_is_due due xs d)

-- each code is one of all

is_code : (d : Code) → IsIn d all_codes
is_code R01 = inl refl
is_code R02 = inr (inl refl)
is_code R03 = inr (inr (inl refl))
is_code R04 = inr (inr (inr (inl refl)))
is_code R05 = inr (inr (inr (inr (inl refl))))
is_code R06 = inr (inr (inr (inr (inr (inl refl)))))
is_code R07 = inr (inr (inr (inr (inr (inr (inl refl))))))
is_code R08 = inr (inr (inr (inr (inr (inr (inr (inl refl)))))))
is_code R09 = inr (inr (inr (inr (inr (inr (inr (inr (inl refl))))))))
is_code R10 = inr (inr (inr (inr (inr (inr (inr (inr (inr (inl refl)))))))))
is_code R11 = inr (inr (inr (inr (inr (inr (inr (inr (inr (inr (inl refl))))))))))
is_code R12 = inr (inr (inr (inr (inr (inr (inr (inr (inr (inr (inr (inl refl)))))))))))
is_code R13 = inr (inr (inr (inr (inr (inr (inr (inr (inr (inr (inr (inr (inl refl))))))))))))
is_code R14 = inr (inr (inr (inr (inr (inr (inr (inr (inr (inr (inr (inr (inr (inl refl)))))))))))))
is_code R15 = inr (inr (inr (inr (inr (inr (inr (inr (inr (inr (inr (inr (inr (inr (inl refl))))))))))))))
is_code R16 = inr (inr (inr (inr (inr (inr (inr (inr (inr (inr (inr (inr (inr (inr (inr (inl refl)))))))))))))))
is_code R17 = inr (inr (inr (inr (inr (inr (inr (inr (inr (inr (inr (inr (inr (inr (inr (inr (inl refl))))))))))))))))
is_code R18 = inr (inr (inr (inr (inr (inr (inr (inr (inr (inr (inr (inr (inr (inr (inr (inr (inr (inl refl)))))))))))))))))
is_code R19 = inr (inr (inr (inr (inr (inr (inr (inr (inr (inr (inr (inr (inr (inr (inr (inr (inr (inr (inl refl))))))))))))))))))
is_code R20 = inr (inr (inr (inr (inr (inr (inr (inr (inr (inr (inr (inr (inr (inr (inr (inr (inr (inr (inr (inl refl)))))))))))))))))))

codes_ascend : Ascend 1 all_codes
codes_ascend = (omega arith, (omega arith, (omega arith, (omega arith, (omega arith, (omega arith, (omega arith, (omega arith, (omega arith, (omega arith, (omega arith, (omega arith, (omega arith, (omega arith, (omega arith, (omega arith, (omega arith, (omega arith, (omega arith, (omega arith, tt))))))))))))))))))))

pub least_is : (due : Code → Bool) (c : Code) → least due ≡ Some c → IsLeast due c
least_is due c h = (first_is_due due all_codes c h, λ d g. first_is_least due 1 all_codes c d codes_ascend (is_code d) g h)

pub none_due : (due : Code → Bool) → least due ≡ None → (d : Code) → due d ≡ false
none_due due h d = none_is_due due all_codes d (is_code d) h
