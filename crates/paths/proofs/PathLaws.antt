-- Laws of paths: what climbing undoes, what lies under what, and that a directory comes before what it has.
use Rattle.std.specs.Prelude.{◌≡◌, ◌↔◌, ℕ, true, Some, List, [], ◌∷◌, ◌++◌, length, drop, refl}
use Rattle.std.specs.declared.cmp.Ordering.TheVariants.{Less}
use Rattle.std.specs.Ordering.{ordering_then}
use Rattle.std.specs.Cmp.{tied_itself}
use Rattle.std.specs.Cmp.Lexicographic.{nat_list_cmp_total, bytes_decides}
use Rattle.std.proofs.Common.{◌∙◌, ap, arith}
use Rattle.std.proofs.lemmas.Slice.Eq.{starts_is}
use Rattle.std.proofs.lemmas.Grind.{common_steps}
use Rattle.paths.specs.Path.{climbed, parent_of, is_at_or_under}
use Rattle.paths.specs.Order.{path_cmp}

pub climbed-append : (p : List (List ℕ)) (name : List ℕ) → climbed (p ++ name ∷ []) ≡ p
climbed-append p name = grind (arith, common_steps)

pub parent_of-append : (p : List (List ℕ)) (name : List ℕ) → parent_of (p ++ name ∷ []) ≡ Some p
parent_of-append [] name = refl
parent_of-append (c ∷ cs) name = ap Some (climbed-append (c ∷ cs) name)

-- p is at or under top exactly where top's components are p's first ones
pub under_iff : (p top : List (List ℕ)) → (is_at_or_under p top ≡ true) ↔ ((rest : List (List ℕ)) × (p ≡ top ++ rest))
under_iff p top =
    let is = starts_is bytes_decides p top (is_at_or_under p top) refl in
    (λ h. (drop (length top) p, is.0 h), λ w. is.1 w.0 w.1)

-- a directory comes before all that it has
pub path_cmp-append : (p : List (List ℕ)) (name : List ℕ) (rest : List (List ℕ)) → path_cmp p (p ++ name ∷ rest) ≡ Less
path_cmp-append [] name rest = refl
path_cmp-append (c ∷ cs) name rest =
    ap (λ r. ordering_then r (path_cmp cs (cs ++ name ∷ rest))) (tied_itself nat_list_cmp_total c) ∙ path_cmp-append cs name rest
