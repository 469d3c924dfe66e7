-- Which calls of a device are counted as failed (own).
use Rattle.std.specs.Prelude.{◌≡◌, ℕ, ◌+◌, ◌<◌, Result, MatchResult}

-- a read that failed is counted, and no other (own)
abbrev pub CountsFailure : {E : Type 0} → ℕ → ℕ → Result ℕ E → Type 0
CountsFailure old new result = MatchResult result (λ _. new ≡ old) (λ _. new ≡ old + 1)

-- a write that failed or took no byte is counted, and no other (own)
abbrev pub CountsIdleWrite : {E : Type 0} → ℕ → ℕ → Result ℕ E → Type 0
CountsIdleWrite old new result =
    MatchResult result (λ n. (0 < n → new ≡ old) × (n ≡ 0 → new ≡ old + 1)) (λ _. new ≡ old + 1)
