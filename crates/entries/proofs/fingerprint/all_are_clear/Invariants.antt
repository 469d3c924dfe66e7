use Rattle.std.proofs.Common.{◌≡◌, ℕ, List, drop}
use Rattle.std.specs.List.{list_all}
use Rattle.trees.specs.Row.{Row}
use Rattle.entries.specs.PrivateFingerprint.{is_clear}
use Rattle.entries.proofs.fingerprint.all_are_clear.Given as goal

-- the rows that are left decide, and the numbers stay
pub record IsRest (before now : List ℕ) (rows : List Row) (at : ℕ) : Type 0 where
  pub same : now ≡ before
  pub rest : list_all (λ (row : Row). is_clear before row.0) rows ≡ list_all (λ (row : Row). is_clear before row.0) (drop at rows)

abbrev pub invariant-loop-row : goal.invariant-loop-row
invariant-loop-row l = IsRest l.fn.sought l.sought l.rows l.row-index
