-- Numbers that were looked for among others, and what is remembered of that (own).
use Rattle.std.specs.Prelude.{◌≡◌, ℕ, false, Option, Some, List, nat_eq, slice_get, IfSome}
use Rattle.std.specs.List.{All, list_any}

-- what stands at these places isn't among the numbers
abbrev pub AreMissed : List ℕ → List (Option ℕ) → Type 0
AreMissed numbers places = All (λ place. IfSome place (λ number. list_any (nat_eq number) numbers ≡ false)) places

-- a number stands at a place
abbrev pub IsAt : List (Option ℕ) → ℕ → ℕ → Type 0
IsAt places place number = slice_get places place ≡ Some (Some number)
