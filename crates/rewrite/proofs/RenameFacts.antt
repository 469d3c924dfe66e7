-- Numbers that are replaced by new ones, one after another.
use Rattle.std.specs.Prelude.{◌≡◌, ◌<◌, ◌≤◌, ◌+◌, ℕ, zero, suc, List, [], ◌∷◌, Some, ◌++◌, length, take, drop, slice_get}
use Rattle.std.proofs.Common.{sym, ap, ◌∙◌, arith, get_or}
use Rattle.std.proofs.Math.Seq.{take-append_seam}
use Rattle.rewrite.specs.Pruned.{Names, AreNames}

-- those below a number were replaced, and the others weren't
pub record Renames (names : Names) (olds news : List ℕ) (at : ℕ) : Type 0 where
  pub long : length news ≡ length olds
  pub done : (k : ℕ) → k < at → k < length olds → slice_get names (get_or olds k 0) ≡ Some (Some (get_or news k 0))
  pub rest : (k d : ℕ) → at ≤ k → get_or news k d ≡ get_or olds k d

pub renames_first : (names : Names) (olds news : List ℕ) → news ≡ olds → Renames names olds news 0
renames_first names olds news same = record {
  long = ap length same;
  done = λ k lt within. absurd (omega (arith, lt));
  rest = λ k d le. ap (λ is. get_or is k d) same;
}

renames_all : (names : Names) (olds news : List ℕ) → length news ≡ length olds
    → ((k : ℕ) → k < length olds → slice_get names (get_or olds k 0) ≡ Some (Some (get_or news k 0))) → AreNames names olds news
renames_all names [] [] long done = tt
renames_all names [] (n ∷ ns) long done = absurd (omega (arith, long))
renames_all names (o ∷ os) [] long done = absurd (omega (arith, long))
renames_all names (o ∷ os) (n ∷ ns) long done = (done 0 (omega arith), renames_all names os ns (omega (arith, long)) (λ k lt. done (suc k) (omega (arith, lt))))

-- all of them were replaced
pub renames_end : (names : Names) (olds news : List ℕ) (at : ℕ) → Renames names olds news at → length news ≤ at → AreNames names olds news
renames_end names olds news at is all = renames_all names olds news is.long (λ k lt. is.done k (omega (arith, lt, all, is.long)) lt)

-- a list whose items were all replaced is the new ones
pub all_kept : (n : ℕ) (news olds : List ℕ) → length news ≡ n → take n (news ++ drop (length news) olds) ≡ news
all_kept n news olds long = ap (λ k. take k (news ++ drop (length news) olds)) (sym long) ∙ take-append_seam news (drop (length news) olds)
