-- A front of a path is a path that it is at or under, and shorter.
use Rattle.std.specs.Prelude.{◌≡◌, ℕ, ◌+◌, ◌<◌, ◌≤◌, Bool, true, false, List, ◌∷◌, ◌++◌, length}
use Rattle.std.proofs.Common.{sym, ap, ◌∙◌, true≢false, arith, inl, inr, refl}
use Rattle.std.proofs.lemmas.List.{length-append}
use Rattle.paths.specs.Path.{is_at_or_under}
use Rattle.paths.specs.Fronts.{is_front}
use Rattle.paths.proofs.FrontLaws.{under_parts, under_from, front-parts}

pub front-shorter : (f p : List (List ℕ)) → is_front f p ≡ true → length f < length p
front-shorter f p h =
    let parts = front-parts f p h in
    let e : length p ≡ length (f ++ parts.0 ∷ parts.1.0) = ap (λ l. length l) parts.1.1 in
    let g : length (f ++ parts.0 ∷ parts.1.0) ≡ length f + length (parts.0 ∷ parts.1.0) = length-append f (parts.0 ∷ parts.1.0) in
    let k : length (parts.0 ∷ parts.1.0) ≡ length parts.1.0 + 1 = omega arith in
    omega arith

pub front-is : (f p : List (List ℕ)) (under : Bool) → is_at_or_under p f ≡ under → length f < length p → under ≡ is_front f p
front-is f p true u less = elim (under_parts p f u) [
  | inl same ↦ absurd (let e : length p ≡ length f = ap (λ l. length l) same in omega arith)
  | inr front ↦ sym front
]
front-is f p false u less = by (is_front f p) refl
  where
    by : (b : Bool) → is_front f p ≡ b → false ≡ b
    by true e = absurd (true≢false (sym (under_from p f (inr e)) ∙ u))
    by false e = refl

pub front-not : (f p : List (List ℕ)) → length p ≤ length f → false ≡ is_front f p
front-not f p more = by (is_front f p) refl
  where
    by : (b : Bool) → is_front f p ≡ b → false ≡ b
    by true e = absurd (let less = front-shorter f p e in omega arith)
    by false e = refl
