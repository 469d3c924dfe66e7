-- Facts on lists of titles.
use Rattle.std.proofs.Common.{◌≡◌, ◌<◌, ◌+◌, ◌-◌, ℕ, List, [], ◌∷◌, ◌++◌, length, replicate, ap, ◌∙◌, arith, append_assoc, length-append}
use Rattle.std.proofs.lemmas.List.{replicate-append-replicate}

-- one more item of a margin leaves one item less of it
pub margin_less : {X : Type 0} (items : List X) (most : ℕ) (x : X) → length items < most
    → (items ++ x ∷ []) ++ replicate (most - length (items ++ x ∷ [])) x ≡ items ++ replicate (most - length items) x
margin_less items most x h =
    let long : length (items ++ x ∷ []) ≡ length items + 1 = length-append items (x ∷ []) in
    let left : 1 + (most - length (items ++ x ∷ [])) ≡ most - length items = omega (arith, long, h) in
    append_assoc items (x ∷ []) (replicate (most - length (items ++ x ∷ [])) x)
    ∙ ap (λ m. items ++ m) (replicate-append-replicate 1 (most - length (items ++ x ∷ [])) x ∙ ap (λ n. replicate n x) left)
