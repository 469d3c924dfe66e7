-- A number's text, with a minus and without.
use Rattle.std.proofs.Common.{◌≡◌, ◌≢◌, ℕ, Bool, true, false, ◌==◌, List, [], ◌∷◌, refl, ap, if◌then◌else◌}
use Rattle.std.proofs.lemmas.Bool.Decides.{Decides-eqb}
use Rattle.fast_float.specs.Text.{scan}
use Rattle.serde_json.specs.Read.{number_of, number_from}

pub number_of-minus : (digits : List ℕ) → number_of (45 ∷ digits) ≡ number_from true (scan digits)
unfolding number_of
number_of-minus digits = refl

pub number_of-digits : (text : List ℕ) → ((digits : List ℕ) → text ≢ 45 ∷ digits) → number_of text ≡ number_from false (scan text)
unfolding number_of
number_of-digits [] none = refl
number_of-digits (x ∷ xs) none = by (x == 45) refl
  where
    by : (b : Bool) → (x == 45) ≡ b → (if b then number_from true (scan xs) else number_from false (scan (x ∷ xs))) ≡ number_from false (scan (x ∷ xs))
    by true e = absurd (none xs (ap (λ y. y ∷ xs) ((Decides-eqb x 45).0 e)))
    by false e = refl
