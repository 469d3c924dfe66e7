-- Hexadecimal that is read two digits at a time.
use Rattle.std.proofs.Common.{◌≡◌, ℕ, zero, suc, ◌+◌, ◌==◌, Bool, true, ◌-◌, ◌*◌, ◌%◌, ◌<◌, ◌≤◌, ◌&&◌, Option, Some, None, Result, Ok, Err, List, [], ◌∷◌, ◌++◌, length, take, drop, slice_index, inl, inr, refl, sym, ap, ◌∙◌, arith, append_assoc, append-nil}
use Rattle.std.specs.Prelude.{nat_lt, unwrap_or, cond}
use Rattle.std.specs.Option.{option_and_then, option_map}
use Rattle.std.specs.Result.{result_ok}
use Rattle.std.proofs.lemmas.Bool.{lt-ltb, cases_lt, and_parts, eqb-true}
use Rattle.std.proofs.lemmas.List.{take_all}
use Rattle.hex.specs.declared.error.FromHexError.{FromHexError}
use Rattle.hex.specs.Hex.{hex_digit_value, digit_or_error, pair_value, decode_pairs, ◌>>=◌}
use Rattle.hex.proofs.Pairs.{cons_byte, decode_pairs-ok_pair, decode_pairs-err_pair}
use Rattle.hex.proofs.HexLemmas.{decode_of-even, decode_of-odd}
use Rattle.entries.specs.Reading.{bytes_of}
use Rattle.entries.specs.PrivateDigits.{digit_number, byte_of, pairs_of}
use Rattle.entries.specs.declared.digits.TheConstants.{VALUES}

-- the table has the values of all characters below a number
abbrev are_values : ℕ → Bool
are_values zero = true
are_values (suc n) = (slice_index VALUES n == digit_number n) && are_values n

are_values-at : (n c : ℕ) → are_values n ≡ true → c < n → slice_index VALUES c ≡ digit_number c
are_values-at zero c h lt = absurd (omega arith)
are_values-at (suc n) c h lt =
    let p = and_parts (slice_index VALUES n == digit_number n) (are_values n) h in
    elim (cases_lt c n) [
      | inl below ↦ are_values-at n c p.1 below
      | inr top ↦
          let e : c ≡ n = omega arith in
          rw e (eqb-true (slice_index VALUES n) (digit_number n) p.0)
    ]

pub values_at : (c : ℕ) → c < 256 → slice_index VALUES c ≡ digit_number c
values_at c lt = are_values-at 256 c refl lt

digit-small : (c v : ℕ) → hex_digit_value c ≡ Some v → v < 16
digit-small c v h = grind (arith)

-- two digits as `hex` reads them, by what each is
values-are : (high low i : ℕ) (a b : Option ℕ) → ((v : ℕ) → a ≡ Some v → v < 16) → ((v : ℕ) → b ≡ Some v → v < 16)
    → result_ok (digit_or_error high i a >>= (λ h. digit_or_error low (i + 1) b >>= (λ l. Ok (h * 16 + l))))
    ≡ cond (nat_lt (unwrap_or a 16) 16 && nat_lt (unwrap_or b 16) 16) (Some (unwrap_or a 16 * 16 + unwrap_or b 16)) None
values-are high low i None b p q = refl
values-are high low i (Some h) None p q = sym (ap (λ t. cond (t && nat_lt 16 16) (Some (h * 16 + 16)) None) (lt-ltb h 16 (p h refl)))
values-are high low i (Some h) (Some l) p q =
    sym (ap (λ t. cond (t && nat_lt l 16) (Some (h * 16 + l)) None) (lt-ltb h 16 (p h refl)) ∙ ap (λ t. cond t (Some (h * 16 + l)) None) (lt-ltb l 16 (q l refl)))

pair-is : (i high low : ℕ) → result_ok (pair_value high low i) ≡ byte_of high low
pair-is i high low = values-are high low i (hex_digit_value high) (hex_digit_value low) (digit-small high) (digit-small low)

-- the bytes of a pair and of what is behind it
abbrev pub then_pairs : Option ℕ → List ℕ → Option (List ℕ)
then_pairs byte rest = option_and_then (λ (b : ℕ). option_map (λ (bytes : List ℕ). b ∷ bytes) (pairs_of rest)) byte

after-byte : (v : ℕ) (r : Result (List ℕ) FromHexError) → result_ok (cons_byte v r) ≡ option_map (λ (bytes : List ℕ). v ∷ bytes) (result_ok r)
after-byte v (Ok bytes) = refl
after-byte v (Err e) = refl

pairs-are : (i : ℕ) (text : List ℕ) → result_ok (decode_pairs i text) ≡ pairs_of text
unfolding decode_pairs
pairs-are i [] = refl
pairs-are i (digit ∷ []) = refl
pairs-are i (high ∷ low ∷ rest) = by (pairs-are (i + 2) rest) (pair_value high low i) refl
  where
    by : result_ok (decode_pairs (i + 2) rest) ≡ pairs_of rest → (r : Result ℕ FromHexError) → pair_value high low i ≡ r → result_ok (decode_pairs i (high ∷ low ∷ rest)) ≡ then_pairs (byte_of high low) rest
    by more (Ok v) e =
        ap (λ (r : Result (List ℕ) FromHexError). result_ok r) (decode_pairs-ok_pair i high low v rest e)
        ∙ after-byte v (decode_pairs (i + 2) rest)
        ∙ ap (λ o. option_map (λ (bytes : List ℕ). v ∷ bytes) o) more
        ∙ sym (ap (λ o. then_pairs o rest) (sym (pair-is i high low) ∙ ap (λ (r : Result ℕ FromHexError). result_ok r) e))
    by more (Err x) e =
        ap (λ (r : Result (List ℕ) FromHexError). result_ok r) (decode_pairs-err_pair i high low x rest e)
        ∙ sym (ap (λ o. then_pairs o rest) (sym (pair-is i high low) ∙ ap (λ (r : Result ℕ FromHexError). result_ok r) e))

none-then : (o : Option ℕ) → option_and_then (λ (b : ℕ). option_map (λ (bytes : List ℕ). b ∷ bytes) None) o ≡ None
none-then None = refl
none-then (Some b) = refl

-- an odd number of digits spells nothing
odd-none : (text : List ℕ) → length text % 2 ≡ 1 → pairs_of text ≡ None
odd-none [] odd = absurd (omega arith)
odd-none (digit ∷ []) odd = refl
odd-none (high ∷ low ∷ rest) odd =
    ap (λ o. option_and_then (λ (b : ℕ). option_map (λ (bytes : List ℕ). b ∷ bytes) o) (byte_of high low)) (odd-none rest (omega arith))
    ∙ none-then (byte_of high low)

pub bytes-are : (text : List ℕ) → pairs_of text ≡ bytes_of text
bytes-are text =
    let two : length text % 2 < 2 = omega arith in
    elim (cases_lt (length text % 2) 1) [
      | inl less ↦
          let even : length text % 2 ≡ 0 = omega arith in
          sym (pairs-are 0 text) ∙ sym (ap (λ (r : Result (List ℕ) FromHexError). result_ok r) (decode_of-even text even))
      | inr more ↦
          let odd : length text % 2 ≡ 1 = omega arith in
          odd-none text odd ∙ sym (ap (λ (r : Result (List ℕ) FromHexError). result_ok r) (decode_of-odd text odd))
    ]

-- ---- what is read and what is left, together

behind-front : (front : List ℕ) (byte : ℕ) (o : Option (List ℕ))
    → option_map (λ (more : List ℕ). (front ++ byte ∷ []) ++ more) o ≡ option_map (λ (more : List ℕ). front ++ more) (option_map (λ (bytes : List ℕ). byte ∷ bytes) o)
behind-front front byte None = refl
behind-front front byte (Some more) = ap Some (append_assoc front (byte ∷ []) more)

module _ (front rest : List ℕ) (whole : Option (List ℕ)) (all : option_map (λ (more : List ℕ). front ++ more) (pairs_of rest) ≡ whole) where
  -- a pair more
  pub pairs-next : (next : List ℕ) (byte : ℕ) → 2 ≤ length rest → byte_of (slice_index rest 0) (slice_index rest 1) ≡ Some byte → next ≡ front ++ byte ∷ []
      → option_map (λ (more : List ℕ). next ++ more) (pairs_of (take (length rest - 2) (drop 2 rest))) ≡ whole
  pairs-next next byte two found grown = by rest two found all
    where
      by : (left : List ℕ) → 2 ≤ length left → byte_of (slice_index left 0) (slice_index left 1) ≡ Some byte → option_map (λ (more : List ℕ). front ++ more) (pairs_of left) ≡ whole
          → option_map (λ (more : List ℕ). next ++ more) (pairs_of (take (length left - 2) (drop 2 left))) ≡ whole
      by [] few h a = absurd (omega arith)
      by (digit ∷ []) few h a = absurd (omega arith)
      by (high ∷ low ∷ behind) few h a =
          ap (λ (l : List ℕ). option_map (λ (more : List ℕ). next ++ more) (pairs_of l)) (take_all (length {A = ℕ} (high ∷ low ∷ behind) - 2) behind (omega arith))
          ∙ ap (λ n. option_map (λ (more : List ℕ). n ++ more) (pairs_of behind)) grown
          ∙ behind-front front byte (pairs_of behind)
          ∙ ap (λ o. option_map (λ (more : List ℕ). front ++ more) o) (sym (ap (λ o. then_pairs o behind) h))
          ∙ a

  -- a pair that is none
  pub pairs-bad : 2 ≤ length rest → byte_of (slice_index rest 0) (slice_index rest 1) ≡ None → whole ≡ None
  pairs-bad two bad = by rest two bad all
    where
      by : (left : List ℕ) → 2 ≤ length left → byte_of (slice_index left 0) (slice_index left 1) ≡ None → option_map (λ (more : List ℕ). front ++ more) (pairs_of left) ≡ whole → whole ≡ None
      by [] few h a = absurd (omega arith)
      by (digit ∷ []) few h a = absurd (omega arith)
      by (high ∷ low ∷ behind) few h a = sym a ∙ ap (λ o. option_map (λ (more : List ℕ). front ++ more) o) (ap (λ o. then_pairs o behind) h)

  -- a digit is left
  pub pairs-odd : length rest ≡ 1 → whole ≡ None
  pairs-odd one = sym all ∙ ap (λ o. option_map (λ (more : List ℕ). front ++ more) o) (odd-none rest (omega arith))

  -- nothing is left
  pub pairs-end : length rest ≡ 0 → whole ≡ Some front
  pairs-end none = by rest refl
    where
      by : (left : List ℕ) → rest ≡ left → whole ≡ Some front
      by [] is = sym all ∙ ap (λ (l : List ℕ). option_map (λ (more : List ℕ). front ++ more) (pairs_of l)) is ∙ ap Some (append-nil front)
      by (digit ∷ left) is = absurd (omega (arith, ap length is))

-- what is added to nothing is itself
pub after_nothing : (o : Option (List ℕ)) → option_map (λ (more : List ℕ). [] ++ more) o ≡ o
after_nothing None = refl
after_nothing (Some bytes) = refl

-- where nothing can be added, no bytes are spelled
pub no_bytes : (text front : List ℕ) → option_map (λ (more : List ℕ). front ++ more) (pairs_of text) ≡ None → bytes_of text ≡ None
no_bytes text front none = sym (bytes-are text) ∙ by (pairs_of text) none
  where
    by : (o : Option (List ℕ)) → option_map (λ (more : List ℕ). front ++ more) o ≡ None → o ≡ None
    by None is = refl
    by (Some bytes) is = grind (arith)
