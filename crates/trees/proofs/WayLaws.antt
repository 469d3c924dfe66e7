-- Laws of the way to a path: whether a file stands on it.
use Rattle.std.specs.Prelude.{◌≡◌, ℕ, Bool, true, false, ◌||◌, Option, List, [], ◌∷◌, map}
use Rattle.std.proofs.Common.{sym, ap, refl, ◌∙◌, true≢false}
use Rattle.std.specs.Ordering.{eq_by_cmp}
use Rattle.std.specs.List.{list_any}
use Rattle.paths.specs.Order.{path_cmp}
use Rattle.paths.specs.Fronts.{is_front, fronts}
use Rattle.paths.proofs.FrontLaws.{name_itself, path_same, both_hold, front-trans, any-fronts}
use Rattle.trees.specs.declared.entry.Entry.{Entry}
use Rattle.trees.specs.TreeMap.{is_blocked, is_file}

any-map : {A B : Type 0} (test : B → Bool) (f : A → B) (xs : List A) → list_any test (map f xs) ≡ list_any (λ x. test (f x)) xs
any-map test f [] = refl
any-map test f (x ∷ xs) = ap (λ b. test (f x) || b) (any-map test f xs)

-- a path is blocked by a file at the top, or below its first name
pub is_blocked-cons : (at : List (List ℕ) → Option Entry) (c : List ℕ) (cs : List (List ℕ)) → is_blocked at (c ∷ cs) ≡ (is_file (at []) || is_blocked (λ p. at (c ∷ p)) cs)
is_blocked-cons at c cs = ap (λ b. is_file (at []) || b) (any-map (λ f. is_file (at f)) (λ f. c ∷ f) (fronts cs))

neither_first : (a b : Bool) → (a || b) ≡ false → a ≡ false
neither_first true b e = e
neither_first false b e = refl

neither_second : (a b : Bool) → (a || b) ≡ false → b ≡ false
neither_second true b e = absurd (true≢false e)
neither_second false b e = e

apart-step : (at : List (List ℕ) → Option Entry) (f q : List (List ℕ)) (blocked more : Bool) → (blocked ≡ false → more ≡ true → is_file (at f) ≡ false) → (tie : Bool) → eq_by_cmp path_cmp f q ≡ tie → (is_file (at q) || blocked) ≡ false → (tie || more) ≡ true → is_file (at f) ≡ false
apart-step at f q blocked more rest true same none some = ap (λ r. is_file (at r)) (path_same f q same) ∙ neither_first _ _ none
apart-step at f q blocked more rest false same none some = rest (neither_second _ _ none) some

apart : (at : List (List ℕ) → Option Entry) (f : List (List ℕ)) (paths : List (List (List ℕ))) → list_any (λ q. is_file (at q)) paths ≡ false → list_any (eq_by_cmp path_cmp f) paths ≡ true → is_file (at f) ≡ false
apart at f [] none some = absurd (true≢false (sym some))
apart at f (q ∷ qs) none some = apart-step at f q _ _ (apart at f qs) (eq_by_cmp path_cmp f q) refl none some

-- no file stands at a front of a path that isn't blocked
pub open-front : (at : List (List ℕ) → Option Entry) (f p : List (List ℕ)) → is_blocked at p ≡ false → is_front f p ≡ true → is_file (at f) ≡ false
open-front at f p way g = apart at f (fronts p) way (any-fronts f p ∙ g)

-- and where none stands, it isn't blocked
pub open-from_fronts : (at : List (List ℕ) → Option Entry) (p : List (List ℕ)) → ((f : List (List ℕ)) → is_front f p ≡ true → is_file (at f) ≡ false) → is_blocked at p ≡ false
open-from_fronts at [] all = refl
open-from_fronts at (c ∷ cs) all =
    is_blocked-cons at c cs ∙ (λ i. all [] refl i || open-from_fronts (λ p. at (c ∷ p)) cs (λ f g. all (c ∷ f) (both_hold _ _ (name_itself c) g)) i)

-- the way to a front of a path is open where the way to the path is
pub open-up : (at : List (List ℕ) → Option Entry) (f p : List (List ℕ)) → is_blocked at p ≡ false → is_front f p ≡ true → is_blocked at f ≡ false
open-up at f p way g = open-from_fronts at f (λ e h. open-front at e p way (front-trans e f p h g))
