-- An object's members in the order of their keys, each key lent, and each value of some kind (own).
use Rattle.std.specs.Prelude.{ℕ, List, map}
use Rattle.std.specs.Borrow.{Bor}

-- keys and values, each key by its text
abbrev pub owned_rows : {A : Type 0} → List (Bor (List ℕ) × A) → List (List ℕ × A)
owned_rows rows = map (λ r. (r.0.now, r.1)) rows
