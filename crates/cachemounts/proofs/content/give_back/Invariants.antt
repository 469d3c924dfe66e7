use Rattle.std.proofs.Common.{◌≡◌, ℕ, List, length, drop, true, Option}
use Rattle.cachemounts.specs.Holds.{of_holder}
use Rattle.cachemounts.specs.Content.{tree_in, given_back, have_contents}
use Rattle.cachemounts.proofs.content.give_back.Given as goal

abbrev pub invariant-loop-hold : goal.invariant-loop-hold
invariant-loop-hold l = record {
  left : length l.trees.items ≡ length (of_holder l.holder (drop l.hold-index l.holds));
  work : (id : List ℕ) (slot : Option ℕ) → given_back (of_holder l.holder (drop l.hold-index l.holds)) l.trees.items id slot (tree_in l.contents id slot) ≡ given_back (of_holder l.holder l.holds) l.fn.trees.items id slot (tree_in l.fn.contents id slot);
  have : have_contents l.contents l.holds ≡ true;
}
