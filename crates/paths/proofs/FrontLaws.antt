-- Laws of fronts: what lies below a path, by its fronts and by what follows them.
use Rattle.std.specs.Prelude.{◌≡◌, ◌⊎◌, ℕ, ◌≤◌, Bool, true, false, ◌&&◌, ◌||◌, List, [], ◌∷◌, ◌++◌, map, length, nat_le}
use Rattle.std.proofs.Common.{sym, ap, refl, ◌∙◌, subst, true≢false, arith, inl, inr, append-nil}
use Rattle.std.specs.declared.cmp.Ordering.{Ordering}
use Rattle.std.specs.declared.cmp.Ordering.TheVariants.{Less, Equal, Greater}
use Rattle.std.specs.Ordering.{eq_by_cmp, is_eq, ordering_then}
use Rattle.std.specs.Cmp.{tied_itself}
use Rattle.std.specs.Cmp.Lexicographic.{nat_list_cmp_total}
use Rattle.std.specs.List.{list_any, list_all}
use Rattle.std.specs.FinMap.{slice_cmp-IsAntisymmetric, nat_cmp-IsAntisymmetric}
use Rattle.plain.specs.Limits.{most_component_bytes}
use Rattle.paths.specs.Path.{IsClean, is_name, is_at_or_under}
use Rattle.paths.specs.Order.{name_cmp, path_cmp}
use Rattle.paths.specs.Fronts.{is_front, fronts}
use Rattle.paths.specs.OrderLaws.{path_cmp_total, path_cmp-IsAntisymmetric}
use Rattle.paths.proofs.PathLaws.{under_iff}

equal : (r : Ordering) → is_eq r ≡ true → r ≡ Equal
equal Less e = absurd (true≢false (sym e))
equal Equal e = refl
equal Greater e = absurd (true≢false (sym e))

-- names that their order doesn't tell apart are one name
pub name_same : (c d : List ℕ) → eq_by_cmp name_cmp c d ≡ true → c ≡ d
name_same c d e = slice_cmp-IsAntisymmetric nat_cmp-IsAntisymmetric c d (equal (name_cmp c d) e)

pub name_itself : (c : List ℕ) → eq_by_cmp name_cmp c c ≡ true
name_itself c = ap is_eq (tied_itself nat_list_cmp_total c)

-- and so are paths
pub path_same : (p q : List (List ℕ)) → eq_by_cmp path_cmp p q ≡ true → p ≡ q
path_same p q e = path_cmp-IsAntisymmetric p q (equal (path_cmp p q) e)

pub path_itself : (p : List (List ℕ)) → eq_by_cmp path_cmp p p ≡ true
path_itself p = ap is_eq (tied_itself path_cmp_total p)

is_eq-then : (r s : Ordering) → is_eq (ordering_then r s) ≡ (is_eq r && is_eq s)
is_eq-then Less s = refl
is_eq-then Equal s = refl
is_eq-then Greater s = refl

-- two paths are one where their first names are and the rest is
pub path_eq-cons : (d c : List ℕ) (ds cs : List (List ℕ)) → eq_by_cmp path_cmp (d ∷ ds) (c ∷ cs) ≡ (eq_by_cmp name_cmp d c && eq_by_cmp path_cmp ds cs)
path_eq-cons d c ds cs = is_eq-then (name_cmp d c) (path_cmp ds cs)

-- the parts of a test that holds
pub both_first : (a b : Bool) → (a && b) ≡ true → a ≡ true
both_first true b e = refl
both_first false b e = e

pub both_second : (a b : Bool) → (a && b) ≡ true → b ≡ true
both_second true b e = e
both_second false b e = absurd (true≢false (sym e))

pub both_hold : (a b : Bool) → a ≡ true → b ≡ true → (a && b) ≡ true
both_hold true b e f = f
both_hold false b e f = e

-- nothing is a proper front of itself
pub front-irrefl : (p : List (List ℕ)) → is_front p p ≡ false
front-irrefl [] = refl
front-irrefl (c ∷ cs) = ap (λ b. b && is_front cs cs) (name_itself c) ∙ front-irrefl cs

-- a front of a front is a front
pub front-trans : (e f p : List (List ℕ)) → is_front e f ≡ true → is_front f p ≡ true → is_front e p ≡ true
front-trans [] f [] h g = absurd (no_front f g)
  where
    no_front : (f : List (List ℕ)) → is_front f [] ≡ true → ⊥
    no_front [] e = true≢false (sym e)
    no_front (d ∷ ds) e = true≢false (sym e)
front-trans [] f (c ∷ cs) h g = refl
front-trans (b ∷ bs) [] p h g = absurd (true≢false (sym h))
front-trans (b ∷ bs) (d ∷ ds) [] h g = absurd (true≢false (sym g))
front-trans (b ∷ bs) (d ∷ ds) (c ∷ cs) h g =
    let first : b ≡ c = name_same b d (both_first _ _ h) ∙ name_same d c (both_first _ _ g) in
    both_hold _ _ (subst (λ (x : List ℕ). eq_by_cmp name_cmp b x ≡ true) first (name_itself b)) (front-trans bs ds cs (both_second (eq_by_cmp name_cmp b d) _ h) (both_second (eq_by_cmp name_cmp d c) _ g))

-- a path and its front don't lie below each other
pub front-asym : (p q : List (List ℕ)) → is_front p q ≡ true → is_front q p ≡ true → ⊥
front-asym p q h g = true≢false (sym (front-trans p q p h g) ∙ front-irrefl p)

-- the root is above every other path
pub front-root : (c : List ℕ) (cs : List (List ℕ)) → is_front [] (c ∷ cs) ≡ true
front-root c cs = refl

-- nothing is above the root
pub no-front-of-root : (f : List (List ℕ)) → is_front f [] ≡ false
no-front-of-root [] = refl
no-front-of-root (d ∷ ds) = refl

any-map : {A B : Type 0} (test : B → Bool) (f : A → B) (xs : List A) → list_any test (map f xs) ≡ list_any (λ x. test (f x)) xs
any-map test f [] = refl
any-map test f (x ∷ xs) = ap (λ b. test (f x) || b) (any-map test f xs)

any-below_name : (d c : List ℕ) (ds : List (List ℕ)) (paths : List (List (List ℕ))) → list_any (eq_by_cmp path_cmp (d ∷ ds)) (map (λ front. c ∷ front) paths) ≡ (eq_by_cmp name_cmp d c && list_any (eq_by_cmp path_cmp ds) paths)
any-below_name d c ds [] = sym (never (eq_by_cmp name_cmp d c))
  where
    never : (b : Bool) → (b && false) ≡ false
    never true = refl
    never false = refl
any-below_name d c ds (p ∷ ps) =
    (λ i. path_eq-cons d c ds p i || any-below_name d c ds ps i) ∙ gathered (eq_by_cmp name_cmp d c) (eq_by_cmp path_cmp ds p) (list_any (eq_by_cmp path_cmp ds) ps)
  where
    gathered : (a x y : Bool) → ((a && x) || (a && y)) ≡ (a && (x || y))
    gathered true x y = refl
    gathered false x y = refl

-- the list of a path's fronts has just those that are its fronts
pub any-fronts : (f p : List (List ℕ)) → list_any (eq_by_cmp path_cmp f) (fronts p) ≡ is_front f p
any-fronts [] [] = refl
any-fronts [] (c ∷ cs) = refl
any-fronts (d ∷ ds) [] = refl
any-fronts (d ∷ ds) (c ∷ cs) = any-below_name d c ds (fronts cs) ∙ ap (λ b. eq_by_cmp name_cmp d c && b) (any-fronts ds cs)

-- what a list_all says of a front
all-front : (test : List ℕ → Bool) (f p : List (List ℕ)) → is_front f p ≡ true → list_all test p ≡ true → list_all test f ≡ true
all-front test [] p g all = refl
all-front test (d ∷ ds) [] g all = absurd (true≢false (sym g))
all-front test (d ∷ ds) (c ∷ cs) g all =
    let same : d ≡ c = name_same d c (both_first _ _ g) in
    both_hold _ _ (ap test same ∙ both_first _ _ all) (all-front test ds cs (both_second (eq_by_cmp name_cmp d c) _ g) (both_second (test c) _ all))

length-front : (f p : List (List ℕ)) → is_front f p ≡ true → length f ≤ length p
length-front [] p g = omega arith
length-front (d ∷ ds) [] g = absurd (true≢false (sym g))
length-front (d ∷ ds) (c ∷ cs) g =
    let less : length ds ≤ length cs = length-front ds cs (both_second (eq_by_cmp name_cmp d c) _ g) in omega arith

-- a front of a clean path is clean
pub clean-front : (f p : List (List ℕ)) → is_front f p ≡ true → IsClean p → IsClean f
clean-front f p g h =
    let less : length f ≤ length p = length-front f p g in
    record { names = all-front is_name f p g h.names; short = all-front (λ c. nat_le (length c) most_component_bytes) f p g h.short; few = omega (arith, h.few) }

-- what lies below a front: the front, a name, and more
pub front-parts : (f p : List (List ℕ)) → is_front f p ≡ true → (name : List ℕ) × ((rest : List (List ℕ)) × (p ≡ f ++ name ∷ rest))
front-parts [] [] g = absurd (true≢false (sym g))
front-parts [] (c ∷ cs) g = (c, (cs, refl))
front-parts (d ∷ ds) [] g = absurd (true≢false (sym g))
front-parts (d ∷ ds) (c ∷ cs) g =
    let same : d ≡ c = name_same d c (both_first _ _ g) in
    let more = front-parts ds cs (both_second (eq_by_cmp name_cmp d c) _ g) in
    (more.0, (more.1.0, λ i. sym same i ∷ more.1.1 i))

pub front-of : (f : List (List ℕ)) (name : List ℕ) (rest : List (List ℕ)) → is_front f (f ++ name ∷ rest) ≡ true
front-of [] name rest = refl
front-of (d ∷ ds) name rest = both_hold _ _ (name_itself d) (front-of ds name rest)

-- a path is at or under another one where it is that one or lies below it
pub under_parts : (p top : List (List ℕ)) → is_at_or_under p top ≡ true → (p ≡ top) ⊎ (is_front top p ≡ true)
under_parts p top h = by_rest ((under_iff p top).0 h).0 ((under_iff p top).0 h).1
  where
    by_rest : (rest : List (List ℕ)) → p ≡ top ++ rest → (p ≡ top) ⊎ (is_front top p ≡ true)
    by_rest [] e = inl (e ∙ append-nil top)
    by_rest (name ∷ rest) e = inr (ap (is_front top) e ∙ front-of top name rest)

pub under_from : (p top : List (List ℕ)) → (p ≡ top) ⊎ (is_front top p ≡ true) → is_at_or_under p top ≡ true
under_from p top (inl e) = (under_iff p top).1 ([], e ∙ sym (append-nil top))
under_from p top (inr g) = let parts = front-parts top p g in (under_iff p top).1 (parts.0 ∷ parts.1.0, parts.1.1)
