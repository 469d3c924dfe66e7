-- What `==` tells of rows and of names: whether they are the same.
use Rattle.std.specs.Prelude.{◌≡◌, ℕ, Bool, ◌&&◌, List, bytes_eq}
use Rattle.std.specs.Bool.{Decides}
use Rattle.std.specs.Cmp.Lexicographic.{pointwise}
use Rattle.std.proofs.Common.{ap, ◌∙◌}
use Rattle.std.proofs.lemmas.Bool.Decides.{Decides-and}
use Rattle.std.proofs.lemmas.Slice.Eq.{slice_eq-Decides, bytes_eq-Decides}
use Rattle.imageconfig.specs.Rows.{Row}

-- a row is its name and its value
row-decides : (p q : Row) → Decides (bytes_eq p.0 q.0 && bytes_eq p.1 q.1) (p ≡ q)
row-decides p q =
    let both : Decides (bytes_eq p.0 q.0 && bytes_eq p.1 q.1) ((p.0 ≡ q.0) × (p.1 ≡ q.1)) =
    Decides-and (bytes_eq p.0 q.0) (bytes_eq p.1 q.1) (bytes_eq-Decides p.0 q.0) (bytes_eq-Decides p.1 q.1) in
    (λ told i. ((both.0 told).0 i, (both.0 told).1 i), λ same. both.1 (ap (λ (row : Row). row.0) same, ap (λ (row : Row). row.1) same))

pub rows-told : (these those xs ys : List Row) (told : Bool) → xs ≡ these → ys ≡ those → told ≡ pointwise (λ p q. bytes_eq p.0 q.0 && bytes_eq p.1 q.1) xs ys
    → Decides told (these ≡ those)
rows-told these those xs ys told one other is =
    slice_eq-Decides row-decides these those told (is ∙ (λ i. pointwise (λ p q. bytes_eq p.0 q.0 && bytes_eq p.1 q.1) (one i) (other i)))

pub names-told : (these those xs ys : List (List ℕ)) (told : Bool) → xs ≡ these → ys ≡ those → told ≡ pointwise bytes_eq xs ys → Decides told (these ≡ those)
names-told these those xs ys told one other is = slice_eq-Decides bytes_eq-Decides these those told (is ∙ (λ i. pointwise bytes_eq (one i) (other i)))
