-- Counting bytes one after another.
use Rattle.std.proofs.Common.{◌≡◌, ◌∙◌, ◌+◌, ◌≤◌, ◌-◌, ◌^◌, ℕ, arith}
use Rattle.memo.specs.Content.{capped}

capped-on : (count more rest : ℕ) → capped (capped (count + more) + rest) ≡ capped (count + (more + rest))
capped-on count more rest = omega arith

-- one more is counted
pub capped-step : (count more rest whole : ℕ) → capped (count + (more + rest)) ≡ whole → capped (capped (count + more) + rest) ≡ whole
capped-step count more rest whole e = capped-on count more rest ∙ e

-- none is left
pub capped-end : (count whole : ℕ) → count ≤ 2 ^ 64 - 1 → capped (count + 0) ≡ whole → count ≡ whole
capped-end count whole le e = omega (arith, le, e)
