-- One more word that is cut in two.
use denote.Ref.{Bor}
use Rattle.std.specs.Prelude.{◌≡◌, ◌<◌, ◌+◌, ℕ, List, [], ◌∷◌, ◌++◌, Option, Some, length, drop, map, slice_index_or}
use Rattle.std.proofs.Common.{sym, ◌∙◌, ap, add-one, drop-cons}
use Rattle.std.proofs.lemmas.List.{map-append}
use Rattle.options.specs.Lists.{all_some}
use Rattle.options.proofs.ListLaws.{behind, behind_some}
use Rattle.instructions.specs.PrivateLent.{lent_texts, lent_pair, lent_pairs}

pub cut_more : (f : List ℕ → Option (List ℕ × List ℕ)) (cuts new : List (Bor (List ℕ) × Bor (List ℕ))) (cut : Bor (List ℕ) × Bor (List ℕ)) (ws : List (Bor (List ℕ))) (i : ℕ) (d : Bor (List ℕ))
    → i < length ws → new ≡ cuts ++ cut ∷ [] → Some (lent_pair cut) ≡ f (slice_index_or ws i d).now → (all : Option (List (List ℕ × List ℕ)))
    → behind (lent_pairs cuts) (all_some (map f (lent_texts (drop i ws)))) ≡ all → behind (lent_pairs new) (all_some (map f (lent_texts (drop (i + 1) ws)))) ≡ all
cut_more f cuts new cut ws i d h p q all before =
    let left : List (Option (List ℕ × List ℕ)) = map f (lent_texts (drop (i + 1) ws)) in
    let a : lent_pairs new ≡ lent_pairs cuts ++ lent_pair cut ∷ [] = ap lent_pairs p ∙ map-append lent_pair cuts (cut ∷ []) in
    let b : drop i ws ≡ slice_index_or ws i d ∷ drop (i + 1) ws = rw add-one (drop-cons ws i d h) in
    let s : behind (lent_pairs cuts) (all_some (map f (lent_texts (drop i ws)))) ≡ behind (lent_pairs cuts ++ lent_pair cut ∷ []) (all_some left) =
    ap (λ (vs : List (Bor (List ℕ))). behind (lent_pairs cuts) (all_some (map f (lent_texts vs)))) b ∙ behind_some (lent_pairs cuts) (lent_pair cut) (f (slice_index_or ws i d).now) left (sym q) in
    ap (λ (found : List (List ℕ × List ℕ)). behind found (all_some left)) a ∙ sym s ∙ before
