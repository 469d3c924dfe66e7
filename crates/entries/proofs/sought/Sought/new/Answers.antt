use Rattle.std.specs.Prelude.{◌≡◌, ℕ, false, Option, None, List, nat_eq, replicate, IfSome}
use Rattle.std.proofs.Common.{rules}
use Rattle.std.specs.List.{list_any}
use Rattle.std.proofs.lemmas.List.Elements.{All-same, All-replicate}
use Rattle.std.proofs.lemmas.List.Sorted.{IsNonDecreasingBy-from_sort}
use Rattle.entries.proofs.sought.Sought.new.Goals as goal

pub invariant_of-result : goal.invariant_of-result
invariant_of-result c =
    let numbers : List ℕ = c.sort_unstable.new.self.items in
    let none : c.in_ok-missed.missed.items ≡ replicate c.min-places.result None = c.in_ok-missed.ensures.items_if_clones_equal (λ y e. search rules) in (
      IsNonDecreasingBy-from_sort (λ n. n) numbers c.sort_unstable.ensures.sorted,
      All-same (λ (place : Option ℕ). IfSome place (λ number. list_any (nat_eq number) numbers ≡ false)) c.in_ok-missed.missed.items (replicate c.min-places.result None) none
          (All-replicate (λ (place : Option ℕ). IfSome place (λ number. list_any (nat_eq number) numbers ≡ false)) c.min-places.result None tt),
    )
