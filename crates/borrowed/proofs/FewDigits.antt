-- A text that is a few digits is a whole number.
use Rattle.std.proofs.Common.{◌≡◌, ℕ, ◌<◌, ◌≤◌, ◌^◌, false, Some, List, [], ◌∷◌, length, slice_index, ◌*◌, ◌+◌, ◌-◌, take, get_or, refl, sym, ◌∙◌, ap, arith}
use Rattle.std.proofs.lemmas.Bool.{lt-ltb}
use Rattle.std.proofs.lemmas.List.{append-nil}
use Rattle.std.proofs.lemmas.List.{length-take}
use Rattle.std.proofs.lemmas.Int.Digits.{digits_value-lt, digits_more, digits_value_more}
use Rattle.std.proofs.lemmas.Str.{digit_value_digit}
use Rattle.std.proofs.lemmas.Str.Parse.{digit_from_value}
use Rattle.std.specs.Int.{IsInRange}
use native.Mathlib.Nat.{pow-le-pow_right}
use Rattle.std.specs.Str.Parse.{AllDigits, IsNumeral, digits_value}
use Rattle.fast_float.specs.Text.{Parts, scan}
use Rattle.fast_float.proofs.Writing.{scan-text_of}
use Rattle.serde_json.specs.Data.{unsigned}
use Rattle.serde_json.specs.Read.{number_of, number_from}
use Rattle.borrowed.proofs.NumberFacts.{number_of-digits}

-- digits alone, as the parts of a numeral
abbrev whole_parts : List ℕ → Parts
whole_parts digits = record { whole = digits; point = false; fraction = []; exponent_negative = false; exponent = []; len = length digits }

scan-digits : (digits : List ℕ) → AllDigits 10 digits → scan digits ≡ whole_parts digits
scan-digits digits all =
    ap scan (sym (append-nil digits)) ∙ scan-text_of (whole_parts digits) (record {
      whole_digits = all;
      fraction_digits = tt;
      exponent_digits = tt;
      no_point = λ _. refl;
      no_exponent = λ _. refl;
      len_is = ap length (sym (append-nil digits));
    })

no_minus : (digits more : List ℕ) → AllDigits 10 digits → 0 < length digits → digits ≡ 45 ∷ more → ⊥
no_minus [] more all some e = absurd (omega arith)
no_minus (d ∷ ds) more all some e = let r = digit_from_value d all.0 in omega (arith, ap (λ x. slice_index x 0) e)

parts-few : (digits : List ℕ) → 0 < length digits → digits_value 10 digits < 2 ^ 64 → number_from false (whole_parts digits) ≡ Some (unsigned (digits_value 10 digits))
parts-few digits some fits = rw (append-nil digits, lt-ltb 0 (length digits) some, lt-ltb (digits_value 10 digits) (2 ^ 64) fits) refl

pub number_of-few : (digits : List ℕ) → IsNumeral 10 digits → digits_value 10 digits < 2 ^ 64 → number_of digits ≡ Some (unsigned (digits_value 10 digits))
number_of-few digits is fits =
    number_of-digits digits (λ more e. no_minus digits more is.1 is.0 e) ∙ ap (number_from false) (scan-digits digits is.1) ∙ parts-few digits is.0 fits

-- the digits that were read, and the number that they write
pub record AreRead (digits : List ℕ) (whole : ℕ) : Type 0 where
  pub all : AllDigits 10 digits
  pub value : whole ≡ digits_value 10 digits

-- 17 digits leave room for one more
pub read-small : (text : List ℕ) (i whole : ℕ) → AreRead (take i text) whole → i < length text → length text ≤ 18 → whole < 10 ^ 17
read-small text i whole read inside few =
    let short : length (take i text) ≤ 17 = omega (arith, length-take i text) in
    omega (arith, read.value, digits_value-lt 10 (take i text) read.all, pow-le-pow_right {n = 10} (omega arith) short)

pub read-more : (text : List ℕ) (i whole : ℕ) → AreRead (take i text) whole → i < length text → IsInRange 48 57 (get_or text i 0) → AreRead (take (i + 1) text) (whole * 10 + (get_or text i 0 - 48))
read-more text i whole read inside digit =
    let is = digit_value_digit (get_or text i 0) digit in
    record { all = digits_more 10 text i inside read.all (omega (arith, is)); value = omega (arith, read.value, digits_value_more 10 text i inside, is) }
