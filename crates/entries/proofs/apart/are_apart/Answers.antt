use Rattle.std.proofs.Common.{ap, sym, ◌∙◌, map, Bor, subst, rules}
use Rattle.std.specs.Prelude.{◌≡◌, List, None, IsPermutation, IsSortedBy}
use Rattle.std.proofs.lemmas.List.Sorted.{IsPermutation-map, answers_always, ranks_by}
use Rattle.paths.specs.OrderLaws.{path_cmp_total}
use Rattle.trees.specs.Row.{Row}
use Rattle.entries.specs.PrivateOrder.{fits_after}
use Rattle.entries.proofs.ApartFacts.{neighbours-tell, order-apart, row_lt, sorted-map}
use Rattle.entries.proofs.apart.are_apart.Goals as goal

pub returns-then-are_in_order : goal.returns-then-are_in_order
returns-then-are_in_order c = sym (order-apart c.args.rows.now (sym c.are_in_order.ensures ∙ c.if-are_in_order.true))

pub returns : goal.returns
returns c =
    let was : List (Bor Row) = c.in_ok-sorted.sorted.items in
    let now : List (Bor Row) = c.sort_unstable_by.new.self.items in
    let rows : map (λ (row : Bor Row). row.now) was ≡ c.args.rows.now = c.in_ok-sorted.ensures in
    let moves : IsPermutation was now = c.sort_unstable_by.ensures.permutation in
    let lt = λ (x : Bor Row) (y : Bor Row). row_lt x.now y.now in
    let up : IsSortedBy lt now = c.sort_unstable_by.ensures.sorted lt (ranks_by path_cmp_total (λ (row : Bor Row). row.now.0)) (answers_always _ _ _ (λ f a r g k. search rules)) in
    c.neighbours_fit.ensures ∙ ap (λ (ys : List (Bor Row)). fits_after None (map (λ row. row.now) ys)) c.as_slice.ensures.value
    ∙ neighbours-tell c.args.rows.now (map (λ (row : Bor Row). row.now) now) (subst (λ (xs : List Row). IsPermutation xs (map (λ (row : Bor Row). row.now) now)) rows (IsPermutation-map (λ (row : Bor Row). row.now) was now moves)) (sorted-map (λ (row : Bor Row). row.now) now up)
