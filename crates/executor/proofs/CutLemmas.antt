-- Where a script is cut first, in std's words.
use Rattle.std.proofs.Common.{◌≡◌, ◌<◌, ◌≤◌, ◌+◌, ◌-◌, ℕ, List, [], ◌∷◌, length, get_or, drop, sym, Bool, true, false, not, arith}
use Rattle.std.specs.List.{slice_range, slice_split, position_or_len}
use Rattle.std.proofs.lemmas.Bool.Decides.{nat_tests}
use Rattle.std.proofs.lemmas.List.Sums.{prefix_len-le-length, position_or_len_is, fails_before_first, passes_at_first}
use Rattle.std.proofs.lemmas.List.Elements.{All-from_get_or}
use Rattle.std.proofs.lemmas.List.Splits.{slice_split_none, slice_split_first}
use Rattle.executor.specs.Script.{is_line_feed}

pub position_or_len-here : (p : ℕ → Bool) (xs : List ℕ) (i : ℕ) → i < length xs → ((k : ℕ) → k < i → p (get_or xs k 0) ≡ false) → p (get_or xs i 0) ≡ true → i ≡ position_or_len p xs
position_or_len-here p xs i inside before here =
    sym (position_or_len_is p xs i 0 (omega arith) before (λ _. here))

pub position_or_len-nowhere : (p : ℕ → Bool) (xs : List ℕ) (i : ℕ) → length xs ≤ i → ((k : ℕ) → k < i → p (get_or xs k 0) ≡ false) → length xs ≡ position_or_len p xs
position_or_len-nowhere p xs i past before =
    sym (position_or_len_is p xs (length xs) 0 (omega arith) (λ k h. before k (omega arith)) (λ h. absurd (omega arith)))

-- where the first piece is the whole text, it is one piece
pub slice_split-whole : (p : ℕ → Bool) (xs : List ℕ) → position_or_len p xs ≡ length xs → slice_split p xs ≡ xs ∷ []
slice_split-whole p xs e =
    slice_split_none p xs (All-from_get_or (λ x. p x ≡ false) xs 0 (λ i h. fails_before_first p xs i 0 (omega arith)))

-- what holds of the first place where a script is cut
pub record IsFirstEnd (xs : List ℕ) (n : ℕ) : Type 0 where
  pub at : n ≡ position_or_len is_line_feed xs
  pub inside : n < length xs
  pub ascii : get_or xs n 0 < 128

line_feed-ascii : (b : ℕ) → is_line_feed b ≡ true → b < 128
line_feed-ascii b e = grind (arith, nat_tests)

pub first_end : (xs : List ℕ) (n : ℕ) → n ≡ position_or_len is_line_feed xs → (n ≡ length xs → ⊥) → IsFirstEnd xs n
first_end xs n at apart =
    let most : position_or_len is_line_feed xs ≤ length xs = prefix_len-le-length (λ x. not (is_line_feed x)) xs in
    let inside : n < length xs = omega arith in
    let here : is_line_feed (get_or xs (position_or_len is_line_feed xs) 0) ≡ true = passes_at_first is_line_feed xs 0 (omega arith) in
    let same : is_line_feed (get_or xs n 0) ≡ true = rw at here in
    record { at = at; inside = inside; ascii = line_feed-ascii (get_or xs n 0) same }

-- the first line ends there, and the rest is cut in the same way
pub slice_split-first : (xs : List ℕ) (n : ℕ) → IsFirstEnd xs n → slice_split is_line_feed xs ≡ slice_range xs 0 n ∷ slice_split is_line_feed (drop (n + 1) xs)
slice_split-first xs n first =
    let at : n ≡ position_or_len is_line_feed xs = first.at in
    let inside : n < length xs = first.inside in
    let whole : n - 0 ≡ n = omega arith in
    rw (whole, at) (slice_split_first is_line_feed xs 0 (omega arith))
