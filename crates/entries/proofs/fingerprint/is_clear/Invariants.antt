use Rattle.std.proofs.Common.{◌≡◌, ℕ, List, drop}
use Rattle.entries.specs.PrivateFingerprint.{is_clear, is_clear_from}
use Rattle.entries.proofs.fingerprint.is_clear.Given as goal

-- the names that are left decide, and the numbers stay
pub record IsRest (before now : List ℕ) (names : List (List ℕ)) (number at : ℕ) : Type 0 where
  pub same : now ≡ before
  pub rest : is_clear before names ≡ is_clear_from before number (drop at names)

abbrev pub invariant-loop-name : goal.invariant-loop-name
invariant-loop-name l = IsRest l.fn.sought l.sought l.names l.number l.name-index
