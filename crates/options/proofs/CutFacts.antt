-- What a list that is cut at its first comma is cut into.
use Rattle.std.proofs.Common.{◌≡◌, ◌==◌, ◌+◌, ℕ, Bool, true, false, cond, not, List, [], ◌∷◌, Some, None, length, refl, ap, ap₂, sym, ◌∙◌, arith, Bor, lit<}
use Rattle.std.specs.List.{slice_split, onto_first, position_or_len}
use Rattle.std.proofs.lemmas.List.Splits.{slice_split_first}
use Rattle.std.proofs.lemmas.Str.Pattern.{split_once_first, IsSplitOnceResult}

-- where no element passes, a list is one part

whole_by : (x : ℕ) (xs : List ℕ) (t : Bool) (n : ℕ) (behind : List (List ℕ)) → cond (not t) (1 + n) 0 ≡ length (x ∷ xs) → (n ≡ length xs → behind ≡ xs ∷ []) → cond t ([] ∷ behind) (onto_first x behind) ≡ (x ∷ xs) ∷ []
whole_by x xs true n behind h i = absurd (omega arith)
whole_by x xs false n behind h i = ap (onto_first x) (i (omega arith))

whole_part : (xs : List ℕ) → position_or_len (λ c. c == 44) xs ≡ length xs → slice_split (λ c. c == 44) xs ≡ xs ∷ []
whole_part [] h = refl
whole_part (x ∷ xs) h = whole_by x xs (x == 44) (position_or_len (λ c. c == 44) xs) (slice_split (λ c. c == 44) xs) h (whole_part xs)

-- the same of what a call finds

pub one_part : (list : List ℕ) → IsSplitOnceResult 44 list None → slice_split (λ c. c == 44) list ≡ list ∷ []
one_part list h = whole_part list (split_once_first 44 list None h (lit< tt))

pub first_part : (list : List ℕ) (part rest : Bor (List ℕ)) → IsSplitOnceResult 44 list (Some (part, rest)) → slice_split (λ c. c == 44) list ≡ part.now ∷ slice_split (λ c. c == 44) rest.now
first_part list part rest h =
    let first = split_once_first 44 list (Some (part, rest)) h (lit< tt) in
    slice_split_first (λ c. c == 44) list 0 first.0 ∙ sym (ap₂ (λ (xs ys : List ℕ). xs ∷ slice_split (λ c. c == 44) ys) first.1 first.2)
