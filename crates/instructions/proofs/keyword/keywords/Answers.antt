use Rattle.std.proofs.Common.{◌≡◌, ◌<◌, ◌∷◌, ◌∙◌, ℕ, suc, List, [], Bor, ap, arith, length, map, refl, slice_index_or}
use Rattle.instructions.specs.Keyword.{keywords, name_of}
use Rattle.instructions.specs.declared.keyword.Keyword.{Keyword}
use Rattle.instructions.proofs.keyword.keywords.Goals as goal

-- names that are those of as many keywords, place by place
named : (names : List (Bor (List ℕ))) (of : List Keyword) → length names ≡ length of
    → ((i : ℕ) (d : Keyword) (e : Bor (List ℕ)) → i < length of → (slice_index_or names i e).now ≡ name_of (slice_index_or of i d))
    → map (λ (name : Bor (List ℕ)). name.now) names ≡ map name_of of
named [] [] long each = refl
named [] (k ∷ of) long each = absurd (omega arith)
named (name ∷ names) [] long each = absurd (omega arith)
named (name ∷ names) (k ∷ of) long each =
    ap (λ (it : List ℕ). it ∷ map (λ (name : Bor (List ℕ)). name.now) names) (each 0 k name (omega arith))
    ∙ ap (λ (it : List (List ℕ)). name_of k ∷ it) (named names of (omega arith) (λ i d e is. each (suc i) d e (omega arith)))

pub returns : goal.returns
returns c = named c.map.result keywords c.map.ensures.items.long (λ i d e is. (c.map.ensures.items.at i d e is).2.met)
