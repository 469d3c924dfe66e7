-- Lent texts but the last, and the last; and the heredocs that are left behind the last.
use denote.Ref.{Bor}
use Rattle.std.specs.Prelude.{◌≡◌, ◌<◌, ◌-◌, ℕ, ◌==◌, List, [], ◌∷◌, length, take, slice_index_or, refl}
use Rattle.std.proofs.Common.{sym, ◌∙◌, ap, arith, get_or}
use Rattle.std.proofs.lemmas.Bool.Decides.{nat_tests}
use Rattle.std.proofs.lemmas.List.{take-map, length-map, get_or-map}
use Rattle.lines.specs.declared.line.Heredoc.{Heredoc}
use Rattle.instructions.specs.Copy.{but_last, last_of, are_all_sources}
use Rattle.instructions.specs.PrivateLent.{lent_texts}

pub length_lent : (ts : List (Bor (List ℕ))) → length (lent_texts ts) ≡ length ts
length_lent ts = length-map ts (λ t. t.now)

pub but_last_lent : (ts : List (Bor (List ℕ))) → lent_texts (take (length ts - 1) ts) ≡ but_last (lent_texts ts)
but_last_lent ts = sym (ap (λ n. take (n - 1) (lent_texts ts)) (length_lent ts) ∙ take-map (λ (t : Bor (List ℕ)). t.now) (length ts - 1) ts)

pub last_of_lent : (ts : List (Bor (List ℕ))) (d : Bor (List ℕ)) → 0 < length ts → (get_or ts (length ts - 1) d).now ≡ last_of (lent_texts ts)
last_of_lent ts d h = sym (ap (λ n. slice_index_or (lent_texts ts) (n - 1) []) (length_lent ts) ∙ get_or-map (λ (t : Bor (List ℕ)). t.now) ts (length ts - 1) d [] (omega arith))

pub none_left : (heredocs : List Heredoc) → are_all_sources heredocs [] ≡ (length heredocs == 0)
none_left [] = refl
none_left (heredoc ∷ heredocs) = grind (arith, nat_tests)
