-- What holds of each value that was looked at.
use Rattle.std.proofs.Common.{◌≡◌, ℕ, ◌+◌, ◌<◌, List, [], ◌∷◌, ◌++◌, length, take, get_or, sym, ap, subst, ◌∙◌, add-one}
use Rattle.std.specs.List.{AllByRecursion}
use Rattle.std.proofs.Math.Seq.{take-suc}

module _ {A : Type 0} (P : A → Type 0) where
  all-last : (values : List A) (value : A) → AllByRecursion P values → P value → AllByRecursion P (values ++ value ∷ [])
  all-last [] value all one = (one, tt)
  all-last (first ∷ values) value all one = (all.0, all-last values value all.1 one)

  -- one value more
  pub all_more : (values : List A) (i : ℕ) (value : A) → AllByRecursion P (take i values) → i < length values → value ≡ get_or values i value
      → P value → AllByRecursion P (take (i + 1) values)
  all_more values i value all within is one =
      subst (AllByRecursion P)
      (sym (ap (λ n. take n values) (add-one i) ∙ (take-suc values i value within ∙ ap (λ v. take i values ++ v ∷ []) (sym is))))
      (all-last (take i values) value all one)
