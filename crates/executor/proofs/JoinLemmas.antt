-- Words in a row, taken from the first on.
use Rattle.std.proofs.Common.{◌≡◌, ◌≤◌, ◌-◌, ℕ, List, [], ◌∷◌, ◌++◌, Bor, map, length, get_or, take, drop, sym, ap, ◌∙◌, arith}
use Rattle.std.specs.List.{join_with_byte}
use Rattle.std.proofs.lemmas.Grind.{common_steps}
use Rattle.std.proofs.lemmas.List.{drop_all, append-nil}

-- the words with a space before each
abbrev pub spaced : List (List ℕ) → List ℕ
spaced [] = []
spaced (word ∷ words) = 32 ∷ (word ++ spaced words)

pub join_with_byte-cons : (first : List ℕ) (words : List (List ℕ)) → join_with_byte 32 (first ∷ words) ≡ first ++ spaced words
join_with_byte-cons first [] = grind (arith, common_steps)
join_with_byte-cons first (word ∷ words) =
    ap (λ rest. first ++ (32 ∷ rest)) (join_with_byte-cons word words)

-- what a slice pattern takes after the first element
pub rest-cons : {X : Type 0} (x : X) (xs : List X) → take (length (x ∷ xs) - 1) (drop 1 (x ∷ xs)) ≡ xs
rest-cons x xs = grind (arith, common_steps)

pub join_with_byte-parts : (words : List (Bor (List ℕ))) (d : Bor (List ℕ)) → 1 ≤ length words → (get_or words 0 d).now ++ spaced (map (λ word. word.now) (take (length words - 1) (drop 1 words))) ≡ join_with_byte 32 (map (λ word. word.now) words)
join_with_byte-parts [] d some = absurd (omega arith)
join_with_byte-parts (word ∷ words) d some =
    rw (rest-cons word words) (sym (join_with_byte-cons word.now (map (λ w. w.now) words)))

-- after the last word, all of them are there
pub join_with_byte-found : (words : List (Bor (List ℕ))) (d : Bor (List ℕ)) (found start : List ℕ) (i : ℕ) → 1 ≤ length words → start ≡ (get_or words 0 d).now → length (take (length words - 1) (drop 1 words)) ≤ i → found ++ spaced (map (λ word. word.now) (drop i (take (length words - 1) (drop 1 words)))) ≡ start ++ spaced (map (λ word. word.now) (take (length words - 1) (drop 1 words))) → found ≡ join_with_byte 32 (map (λ word. word.now) words)
join_with_byte-found words d found start i some at past kept =
    let none : drop i (take (length words - 1) (drop 1 words)) ≡ [] = drop_all i (take (length words - 1) (drop 1 words)) past in
    let here : found ++ [] ≡ start ++ spaced (map (λ word. word.now) (take (length words - 1) (drop 1 words))) = rw none at kept in
    sym (append-nil found) ∙ here ∙ ap (λ s. s ++ spaced (map (λ word. word.now) (take (length words - 1) (drop 1 words)))) at ∙ join_with_byte-parts words d some
