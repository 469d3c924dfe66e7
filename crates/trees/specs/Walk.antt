-- A walk through a tree, as its callers see it.
use Rattle.std.specs.Prelude.{ℕ, List, refl}
use Rattle.std.specs.Coded.{Coded, code_by, coded×, coded_list, coded_ℕ}
use Rattle.trees.specs.declared.entry.Entry.{Entry}
use Rattle.trees.specs.contracts.entry.Entry as entries_of

-- the path of the entry that was given or passed last, and the entries that are still to come with their paths, in path order
pub record WalkValue : Type 0 where
  pub at : List (List ℕ)
  pub left : List (List (List ℕ) × Entry)

-- the code of a walk's value, as the pair of its parts
abbrev pub walk_code : Coded WalkValue
walk_code =
    code_by (List (List ℕ) × List (List (List ℕ) × Entry)) (coded× (coded_list (coded_list coded_ℕ)) (coded_list (coded× (coded_list (coded_list coded_ℕ)) entries_of.the_row.coded))) (λ w. (w.at, w.left)) (λ p. record { at = p.0; left = p.1 }) (λ _. refl)
