-- Laws of the order of paths: it is total, and tells any two apart. They stand among the definitions since the comparisons of `Path` cite
-- them as their laws.
use Rattle.std.specs.Prelude.{◌≡◌, ℕ, List, Some}
use Rattle.std.specs.Ordering.{nat_cmp, eq_by_cmp}
use Rattle.std.specs.Cmp.{IsEquivalence, IsTotalOrder, IsPartialOrder, po}
use Rattle.std.specs.Cmp.Lexicographic.{slice_cmp, lists_equiv, lists_total, lists_ties, nat_list_eq_equiv, nat_list_cmp_total, texts_ties}
use Rattle.std.specs.FinMap.{IsAntisymmetric, nat_cmp-IsAntisymmetric, slice_cmp-IsAntisymmetric}
use Rattle.paths.specs.Order.{path_eq, path_cmp}

pub path_eq_equiv : IsEquivalence path_eq
path_eq_equiv = lists_equiv nat_list_eq_equiv

pub path_cmp_total : IsTotalOrder path_cmp
path_cmp_total = lists_total nat_list_cmp_total

pub path_ties : (p q : List (List ℕ)) → path_eq p q ≡ eq_by_cmp path_cmp p q
path_ties = lists_ties (slice_cmp nat_cmp) texts_ties

pub path_po : IsPartialOrder path_eq (λ p q. Some (path_cmp p q))
path_po = po path_cmp_total path_ties

-- paths that `cmp` doesn't tell apart are the same path
pub path_cmp-IsAntisymmetric : IsAntisymmetric path_cmp
path_cmp-IsAntisymmetric = slice_cmp-IsAntisymmetric (slice_cmp-IsAntisymmetric nat_cmp-IsAntisymmetric)
