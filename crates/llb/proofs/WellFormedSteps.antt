-- Tests of a list that go over it from the front: one step on.
use Rattle.std.specs.Prelude.{◌≡◌, ◌<◌, ◌≤◌, ◌+◌, ◌-◌, ℕ, suc, Bool, true, false, cond, ◌&&◌, ◌||◌, not, List, [], ◌∷◌, ◌++◌, map, length, take, drop, slice_index_or, nat_eq, refl}
use Rattle.std.specs.List.{list_any}
use Rattle.std.specs.Cmp.Lexicographic.{pointwise, slice_cmp}
use Rattle.std.specs.Ordering.{is_eq, nat_cmp}
use Rattle.std.proofs.Common.{arith, ap, sym, ◌∙◌, subst, add-one, length-drop}
use Rattle.std.proofs.Math.Bool.{or-false}
use Rattle.std.proofs.Math.Seq.{drop-cons}
use Rattle.std.proofs.lemmas.List.{nil_from_length}
use Rattle.std.proofs.lemmas.Grind.{common_steps}
use Rattle.std.proofs.lemmas.Map.Text.{is_eq-slice_cmp}
use Rattle.std.proofs.lemmas.List.Folds.{list_any-append}
use Rattle.runs.specs.Run.{targets_clash, is_root, mounts_fit, ids_differ}

-- what follows the first element, as a slice pattern gives it
abbrev pub tail_of : {X : Type 0} → List X → List X
tail_of rest = take (length rest - 1) (drop 1 rest)

tail-is : {X : Type 0} (x : X) (xs : List X) → tail_of (x ∷ xs) ≡ xs
tail-is x xs = grind (arith, common_steps)

list_any-map : {X Y : Type 0} (p : Y → Bool) (f : X → Y) (xs : List X) → list_any p (map f xs) ≡ list_any (λ x. p (f x)) xs
list_any-map p f [] = refl
list_any-map p f (x ∷ xs) = ap (λ b. p (f x) || b) (list_any-map p f xs)

-- names that differ from one another and from those that were seen
abbrev pub are_new : (List ℕ → Bool) → List (List ℕ) → Bool
are_new seen [] = true
are_new seen (name ∷ names) = not (seen name) && are_new (λ q. pointwise nat_eq name q || seen q) names

new_by : (a s b d : Bool) → (not s && (not (a || b) && d)) ≡ (not (s || b) && (not a && d))
new_by true true b d = refl
new_by true false true d = refl
new_by true false false d = refl
new_by false true b d = refl
new_by false false true d = refl
new_by false false false d = refl

list_any-or : (p s : List ℕ → Bool) (names : List (List ℕ)) → list_any (λ q. p q || s q) names ≡ (list_any p names || list_any s names)
list_any-or p s [] = refl
list_any-or p s (name ∷ names) = or_apart (p name) (s name) _ _ _ (list_any-or p s names)
  where
    or_apart : (p s a b c : Bool) → c ≡ (a || b) → ((p || s) || c) ≡ ((p || a) || (s || b))
    or_apart true s a b c e = refl
    or_apart false true true b c e = refl
    or_apart false true false b c e = refl
    or_apart false false a b c e = e

-- names are new where none was seen and they differ from one another
are_new-is : (seen : List ℕ → Bool) (names : List (List ℕ)) → are_new seen names ≡ (not (list_any seen names) && ids_differ names)
are_new-is seen [] = refl
are_new-is seen (name ∷ names) =
    ap (λ b. not (seen name) && b) (are_new-is (λ q. pointwise nat_eq name q || seen q) names)
    ∙ ap (λ b. not (seen name) && (not b && ids_differ names)) (list_any-or (pointwise nat_eq name) seen names)
    ∙ new_by (list_any (pointwise nat_eq name) names) (seen name) (list_any seen names) (ids_differ names)

none_seen : (seen : List ℕ → Bool) (names : List (List ℕ)) → ((q : List ℕ) → seen q ≡ false) → list_any seen names ≡ false
none_seen seen [] none = refl
none_seen seen (name ∷ names) none = rw (none name) (none_seen seen names none)

-- where none was seen, names are new that differ
pub all_new : (seen : List ℕ → Bool) (names : List (List ℕ)) → ((q : List ℕ) → seen q ≡ false) → ids_differ names ≡ are_new seen names
all_new seen names none = sym (are_new-is seen names ∙ ap (λ b. not b && ids_differ names) (none_seen seen names none))

are_new-same : (names : List (List ℕ)) (seen other : List ℕ → Bool) → ((q : List ℕ) → seen q ≡ other q) → are_new seen names ≡ are_new other names
are_new-same [] seen other same = refl
are_new-same (name ∷ names) seen other same =
    rw (same name) (ap (λ b. not (other name) && b)
    (are_new-same names (λ q. pointwise nat_eq name q || seen q) (λ q. pointwise nat_eq name q || other q) (λ q. ap (λ b. pointwise nat_eq name q || b) (same q))))

or_from : (b s : Bool) → cond b true s ≡ (b || s)
or_from true s = refl
or_from false s = refl

left_from : {X : Type 0} (items : List X) (i : ℕ) (item : X) → i < length items → item ≡ slice_index_or items i item → drop i items ≡ item ∷ drop (i + 1) items
left_from items i item lt is = rw (add-one, drop-cons items i item lt) (ap (λ x. x ∷ drop (suc i) items) (sym is))

-- the next name was seen before
pub name_hit : {X : Type 0} (f : X → List ℕ) (items : List X) (i : ℕ) (item : X) (seen : List ℕ → Bool) → ids_differ (map f items) ≡ are_new seen (map f (drop i items))
    → i < length items → item ≡ slice_index_or items i item → seen (f item) ≡ true → false ≡ ids_differ (map f items)
name_hit f items i item seen so_far lt is hit =
    sym (so_far ∙ ap (λ rest. are_new seen (map f rest)) (left_from items i item lt is) ∙ ap (λ b. not b && are_new (λ q. pointwise nat_eq (f item) q || seen q) (map f (drop (i + 1) items))) hit)

-- the next name is new, and is seen from now on
pub name_miss : {X : Type 0} (f : X → List ℕ) (items : List X) (i : ℕ) (item : X) (seen now : List ℕ → Bool) → ids_differ (map f items) ≡ are_new seen (map f (drop i items))
    → i < length items → item ≡ slice_index_or items i item → seen (f item) ≡ false → ((q : List ℕ) → now q ≡ cond (is_eq (slice_cmp nat_cmp (f item) q)) true (seen q))
    → ids_differ (map f items) ≡ are_new now (map f (drop (i + 1) items))
name_miss f items i item seen now so_far lt is miss then_seen =
    so_far ∙ ap (λ rest. are_new seen (map f rest)) (left_from items i item lt is)
    ∙ ap (λ b. not b && are_new (λ q. pointwise nat_eq (f item) q || seen q) (map f (drop (i + 1) items))) miss
    ∙ are_new-same (map f (drop (i + 1) items)) (λ q. pointwise nat_eq (f item) q || seen q) now
    (λ q. sym (then_seen q ∙ ap (λ b. cond b true (seen q)) (is_eq-slice_cmp (f item) q) ∙ or_from (pointwise nat_eq (f item) q) (seen q)))

drop_past : {X : Type 0} (xs : List X) (n : ℕ) → length xs ≤ n → drop n xs ≡ []
drop_past xs n past = nil_from_length (drop n xs) (simp length-drop (omega arith))

-- no name is left
pub names_end : {X : Type 0} (f : X → List ℕ) (items : List X) (i : ℕ) (seen : List ℕ → Bool) → ids_differ (map f items) ≡ are_new seen (map f (drop i items))
    → length items ≤ i → true ≡ ids_differ (map f items)
names_end f items i seen so_far past = sym (so_far ∙ ap (λ rest. are_new seen (map f rest)) (drop_past items i past))

fit_hit : (r a o m b : Bool) → b ≡ (not r && not a) → b ≡ false → (not r && (not (a || o) && m)) ≡ false
fit_hit true a o m b e off = refl
fit_hit false true o m b e off = refl
fit_hit false false o m b e off = cc

fit_other : (r a o m : Bool) → o ≡ true → (not r && (not (a || o) && m)) ≡ false
fit_other true a o m on = refl
fit_other false true o m on = refl
fit_other false false o m on = ap (λ x. not x && m) on

fit_miss : (r a o m b : Bool) → b ≡ (not r && not a) → b ≡ true → o ≡ false → (not r && (not (a || o) && m)) ≡ m
fit_miss true a o m b e on off = cc
fit_miss false true o m b e on off = cc
fit_miss false false o m b e on off = ap (λ x. not x && m) off

-- targets of some, before those of others
abbrev pub both_fit : {X Y : Type 0} → (X → List (List ℕ)) → (Y → List (List ℕ)) → List X → List Y → Bool
both_fit f g xs ys = mounts_fit (map f xs ++ map g ys)

mounts_cons : {X Y : Type 0} (f : X → List (List ℕ)) (g : Y → List (List ℕ)) (x : X) (xs zs : List X) (ys : List Y) → zs ≡ xs → both_fit f g (x ∷ xs) ys ≡ (not (is_root (f x)) && (not (list_any (λ y. targets_clash (f x) (f y)) zs || list_any (λ y. targets_clash (f x) (g y)) ys) && both_fit f g zs ys))
mounts_cons f g x xs zs ys e =
    rw e (ap (λ b. not (is_root (f x)) && (not b && both_fit f g xs ys))
    (list_any-append (targets_clash (f x)) (map f xs) (map g ys)
    ∙ ap (λ b. b || list_any (targets_clash (f x)) (map g ys)) (list_any-map (targets_clash (f x)) f xs)
    ∙ ap (λ b. list_any (λ y. targets_clash (f x) (f y)) xs || b) (list_any-map (targets_clash (f x)) g ys)))

mounts_step : {X Y : Type 0} (f : X → List (List ℕ)) (g : Y → List (List ℕ)) (rest : List X) (item : X) (ys : List Y) → 1 ≤ length rest → item ≡ slice_index_or rest 0 item → both_fit f g rest ys ≡ (not (is_root (f item)) && (not (list_any (λ x. targets_clash (f item) (f x)) (tail_of rest) || list_any (λ y. targets_clash (f item) (g y)) ys) && both_fit f g (tail_of rest) ys))
mounts_step f g [] item ys long is = absurd (omega arith)
mounts_step f g (x ∷ xs) item ys long is = subst (λ z. both_fit f g (x ∷ xs) ys ≡ (not (is_root (f z)) && (not (list_any (λ w. targets_clash (f z) (f w)) (tail_of (x ∷ xs)) || list_any (λ y. targets_clash (f z) (g y)) ys) && both_fit f g (tail_of (x ∷ xs)) ys))) (sym is) (mounts_cons f g x xs (tail_of (x ∷ xs)) ys (tail-is x xs))

-- the first is mounted at the root, or clashes with one of its own kind
pub mounts_hit : {X Y : Type 0} (f : X → List (List ℕ)) (g : Y → List (List ℕ)) (items rest : List X) (item : X) (ys : List Y) (b : Bool) → both_fit f g items ys ≡ both_fit f g rest ys → 1 ≤ length rest → item ≡ slice_index_or rest 0 item → b ≡ (not (is_root (f item)) && not (list_any (λ x. targets_clash (f item) (f x)) (tail_of rest))) → b ≡ false → false ≡ both_fit f g items ys
mounts_hit f g items rest item ys b so_far long is test off = sym (so_far ∙ mounts_step f g rest item ys long is ∙ fit_hit _ _ _ _ b test off)

-- the first clashes with one of the others
pub mounts_other : {X Y : Type 0} (f : X → List (List ℕ)) (g : Y → List (List ℕ)) (items rest : List X) (item : X) (ys : List Y) → both_fit f g items ys ≡ both_fit f g rest ys → 1 ≤ length rest → item ≡ slice_index_or rest 0 item → list_any (λ y. targets_clash (f item) (g y)) ys ≡ true → false ≡ both_fit f g items ys
mounts_other f g items rest item ys so_far long is on = sym (so_far ∙ mounts_step f g rest item ys long is ∙ fit_other _ _ _ _ on)

-- the first may stand beside all
pub mounts_miss : {X Y : Type 0} (f : X → List (List ℕ)) (g : Y → List (List ℕ)) (items rest : List X) (item : X) (ys : List Y) (b : Bool) → both_fit f g items ys ≡ both_fit f g rest ys → 1 ≤ length rest → item ≡ slice_index_or rest 0 item → b ≡ (not (is_root (f item)) && not (list_any (λ x. targets_clash (f item) (f x)) (tail_of rest))) → b ≡ true → list_any (λ y. targets_clash (f item) (g y)) ys ≡ false → both_fit f g items ys ≡ both_fit f g (tail_of rest) ys
mounts_miss f g items rest item ys b so_far long is test on off = so_far ∙ mounts_step f g rest item ys long is ∙ fit_miss _ _ _ _ b test on off

targets_cons : {X : Type 0} (f : X → List (List ℕ)) (x : X) (xs ys : List X) → ys ≡ xs → mounts_fit (map f (x ∷ xs)) ≡ (not (is_root (f x)) && (not (list_any (λ y. targets_clash (f x) (f y)) ys || false) && mounts_fit (map f ys)))
targets_cons f x xs ys e = rw e (ap (λ b. not (is_root (f x)) && (not b && mounts_fit (map f xs))) (list_any-map (targets_clash (f x)) f xs ∙ sym (or-false _)))

targets_step : {X : Type 0} (f : X → List (List ℕ)) (rest : List X) (item : X) → 1 ≤ length rest → item ≡ slice_index_or rest 0 item → mounts_fit (map f rest) ≡ (not (is_root (f item)) && (not (list_any (λ x. targets_clash (f item) (f x)) (tail_of rest) || false) && mounts_fit (map f (tail_of rest))))
targets_step f [] item long is = absurd (omega arith)
targets_step f (x ∷ xs) item long is = subst (λ y. mounts_fit (map f (x ∷ xs)) ≡ (not (is_root (f y)) && (not (list_any (λ z. targets_clash (f y) (f z)) (tail_of (x ∷ xs)) || false) && mounts_fit (map f (tail_of (x ∷ xs)))))) (sym is) (targets_cons f x xs (tail_of (x ∷ xs)) (tail-is x xs))

-- the first is mounted at the root, or clashes with another
pub targets_hit : {X : Type 0} (f : X → List (List ℕ)) (items rest : List X) (item : X) (b : Bool) → mounts_fit (map f items) ≡ mounts_fit (map f rest) → 1 ≤ length rest → item ≡ slice_index_or rest 0 item → b ≡ (not (is_root (f item)) && not (list_any (λ x. targets_clash (f item) (f x)) (tail_of rest))) → b ≡ false → false ≡ mounts_fit (map f items)
targets_hit f items rest item b so_far long is test off = sym (so_far ∙ targets_step f rest item long is ∙ fit_hit _ _ false _ b test off)

-- the first may stand beside the others
pub targets_miss : {X : Type 0} (f : X → List (List ℕ)) (items rest : List X) (item : X) (b : Bool) → mounts_fit (map f items) ≡ mounts_fit (map f rest) → 1 ≤ length rest → item ≡ slice_index_or rest 0 item → b ≡ (not (is_root (f item)) && not (list_any (λ x. targets_clash (f item) (f x)) (tail_of rest))) → b ≡ true → mounts_fit (map f items) ≡ mounts_fit (map f (tail_of rest))
targets_miss f items rest item b so_far long is test on = so_far ∙ targets_step f rest item long is ∙ fit_miss _ _ false _ b test on refl

-- a test of four parts, each known by another name
pub four : (a b c d p q r s : Bool) → a ≡ p → b ≡ q → c ≡ r → d ≡ s → (a && (b && (c && d))) ≡ (p && (q && (r && s)))
four a b c d p q r s ea eb ec ed = cc
