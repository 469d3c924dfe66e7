-- Where a text is cut at its first slash, in std's words.
use Rattle.std.proofs.Common.{◌≡◌, ◌<◌, ◌≤◌, ◌+◌, ◌-◌, ◌==◌, ℕ, List, [], ◌∷◌, length, get_or, drop, sym, false, true, not, arith}
use Rattle.std.specs.List.{slice_range, position_or_len}
use Rattle.std.proofs.lemmas.Bool.Decides.{nat_tests}
use Rattle.std.proofs.lemmas.List.Sums.{prefix_len-le-length, position_or_len_is, fails_before_first, passes_at_first}
use Rattle.std.proofs.lemmas.List.Elements.{All-from_get_or}
use Rattle.std.proofs.lemmas.List.Splits.{slice_split_none, slice_split_first}
use Rattle.paths.specs.Reading.{pieces}

-- how long the first piece is
abbrev pub piece_len : List ℕ → ℕ
piece_len text = position_or_len (λ b. b == 47) text

pub piece_len-here : (text : List ℕ) (i : ℕ) → i < length text → ((k : ℕ) → k < i → (get_or text k 0 == 47) ≡ false) → (get_or text i 0 == 47) ≡ true → i ≡ piece_len text
piece_len-here text i inside before here =
    sym (position_or_len_is (λ b. b == 47) text i 0 (omega arith) before (λ _. here))

pub piece_len-nowhere : (text : List ℕ) (i : ℕ) → length text ≤ i → ((k : ℕ) → k < i → (get_or text k 0 == 47) ≡ false) → length text ≡ piece_len text
piece_len-nowhere text i past before =
    sym (position_or_len_is (λ b. b == 47) text (length text) 0 (omega arith) (λ k h. before k (omega arith)) (λ h. absurd (omega arith)))

-- where the first piece is the whole text, it is one piece
pub pieces-whole : (text : List ℕ) → piece_len text ≡ length text → pieces text ≡ text ∷ []
pieces-whole text e =
    slice_split_none (λ b. b == 47) text (All-from_get_or (λ b. (b == 47) ≡ false) text 0 (λ i h. fails_before_first (λ b. b == 47) text i 0 (omega arith)))

-- what holds of the first place where a text is cut
pub record IsFirstSlash (text : List ℕ) (n : ℕ) : Type 0 where
  pub at : n ≡ piece_len text
  pub inside : n < length text
  pub ascii : get_or text n 0 < 128

slash-ascii : (b : ℕ) → (b == 47) ≡ true → b < 128
slash-ascii b e = grind (arith, nat_tests)

pub first_slash : (text : List ℕ) (n : ℕ) → n ≡ piece_len text → (n ≡ length text → ⊥) → IsFirstSlash text n
first_slash text n at apart =
    let most : piece_len text ≤ length text = prefix_len-le-length (λ b. not (b == 47)) text in
    let inside : n < length text = omega arith in
    let here : (get_or text (piece_len text) 0 == 47) ≡ true = passes_at_first (λ b. b == 47) text 0 (omega arith) in
    let same : (get_or text n 0 == 47) ≡ true = rw at here in
    record { at = at; inside = inside; ascii = slash-ascii (get_or text n 0) same }

-- the first piece ends there, and the rest is cut in the same way
pub pieces-first : (text : List ℕ) (n : ℕ) → IsFirstSlash text n → pieces text ≡ slice_range text 0 n ∷ pieces (drop (n + 1) text)
pieces-first text n first =
    let at : n ≡ piece_len text = first.at in
    let inside : n < length text = first.inside in
    let whole : n - 0 ≡ n = omega arith in
    rw (whole, at) (slice_split_first (λ b. b == 47) text 0 (omega arith))
