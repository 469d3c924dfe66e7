-- What contracts see of a value in a cell.
use Rattle.std.specs.Prelude.{ℕ, refl}
use Rattle.std.specs.Coded.{Coded, code_by, coded×, coded_ℕ}

-- a number, and the value that the thing of that number has (own)
pub record FoundValue (T : Type 0) : Type 0 where
  pub number : ℕ
  pub value : T

-- a value with its number in plain data, for generic code (own)
abbrev pub found_code : {T : Type 0} → Coded T → Coded (FoundValue T)
found_code {T} t =
    code_by (ℕ × T)
    (coded× coded_ℕ t)
    (λ f. (f.number, f.value))
    (λ p. record { number = p.0; value = p.1 })
    (λ _. refl)
