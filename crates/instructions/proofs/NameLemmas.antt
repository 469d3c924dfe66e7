-- What ENV and ARG take as a name is the name of a variable.
use Rattle.std.specs.Prelude.{◌≡◌, ℕ, ◌==◌, Bool, true, false, List, [], ◌∷◌, length, if◌then◌else◌, refl}
use Rattle.std.specs.List.{list_any}
use Rattle.std.proofs.Common.{sym, ◌∙◌, ap, arith}
use Rattle.std.proofs.lemmas.Bool.{true≢false}
use Rattle.std.proofs.lemmas.Bool.Decides.{nat_tests}
use Rattle.ascii.specs.Names.{is_name, begins_name, is_in_name, are_in_name}
use Rattle.plain.specs.VariableName.{equals_sign, is_variable_name}

-- a name holds no `=`

is_not : (c d : ℕ) (b : Bool) → (c == d) ≡ b → (c ≡ d → ⊥) → b ≡ false
is_not c d true e h = absurd (h (grind (arith, nat_tests)))
is_not c d false e h = refl

in_name-no_equals : (c : ℕ) → is_in_name c ≡ true → (c == equals_sign) ≡ false
in_name-no_equals c h = is_not c equals_sign (c == equals_sign) refl (λ e. true≢false (sym h ∙ ap is_in_name e))

begins_name-in_name : (c : ℕ) → begins_name c ≡ true → is_in_name c ≡ true
begins_name-in_name c h = rw h refl

are_in_name-no_equals : (cs : List ℕ) → are_in_name cs ≡ true → list_any (λ byte. byte == equals_sign) cs ≡ false
are_in_name-no_equals [] h = refl
are_in_name-no_equals (c ∷ cs) h = by (is_in_name c) refl h (are_in_name-no_equals cs)
  where
    by : (b : Bool) → is_in_name c ≡ b → (if b then are_in_name cs else false) ≡ true → (are_in_name cs ≡ true → list_any (λ byte. byte == equals_sign) cs ≡ false)
        → list_any (λ byte. byte == equals_sign) (c ∷ cs) ≡ false
    by true e i rest = rw (in_name-no_equals c e) (rest i)
    by false e i rest = absurd (true≢false (sym i))

not_empty : (c : ℕ) (cs : List ℕ) → (length (c ∷ cs) == 0) ≡ false
not_empty c cs = is_not (length (c ∷ cs)) 0 (length (c ∷ cs) == 0) refl (λ e. absurd (omega (arith, e)))

pub name_fits : (n : List ℕ) → is_name n ≡ true → is_variable_name n ≡ true
name_fits [] h = absurd (true≢false (sym h))
name_fits (c ∷ cs) h = by (begins_name c) refl h
  where
    by : (b : Bool) → begins_name c ≡ b → (if b then are_in_name cs else false) ≡ true → is_variable_name (c ∷ cs) ≡ true
    by true e i = rw (not_empty c cs, in_name-no_equals c (begins_name-in_name c e), are_in_name-no_equals cs i) refl
    by false e i = absurd (true≢false (sym i))
