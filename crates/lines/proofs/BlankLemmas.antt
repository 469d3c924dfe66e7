-- Lemmas on the front of a line: its tabs, and its first byte.
use Rattle.std.proofs.Common.{◌≡◌, ℕ, ◌+◌, ◌<◌, true, List, [], ◌∷◌, length, drop, get_or, ap, ◌∙◌, sym, arith}
use Rattle.std.proofs.lemmas.List.{at_drop_more}
use Rattle.std.proofs.lemmas.Bool.Decides.{nat_tests}
use Rattle.lines.specs.Blanks.{after_tabs, starts_with}

pub after_tabs-step : (xs : List ℕ) (i : ℕ) → i < length xs → get_or xs i 0 ≡ 9 → after_tabs (drop (i + 1) xs) ≡ after_tabs (drop i xs)
after_tabs-step xs i l h = sym (at_drop_more after_tabs xs i 0 l ∙ ap (λ x. after_tabs (x ∷ drop (i + 1) xs)) h)

pub starts_with-some : (c : ℕ) (text : List ℕ) → starts_with c text ≡ true → (0 < length text) × (get_or text 0 0 ≡ c)
starts_with-some c [] h = cc
starts_with-some c (d ∷ ds) h = (omega (arith), grind (arith, nat_tests))
