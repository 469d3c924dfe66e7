-- Among rows that are sorted by their paths, where two clash, two neighbours do; and rows clash in whatever order they are.
use Rattle.std.specs.Prelude.{◌≡◌, ℕ, zero, suc, ◌+◌, ◌<◌, ◌≤◌, Bool, true, false, not, ◌&&◌, ◌||◌, Option, Some, None, List, [], ◌∷◌, length, map, IsPermutation, IsSortedBy}
use Rattle.std.proofs.Common.{add-one, sym, ap, ◌∙◌, ◌⊎◌, subst, true≢false, arith, inl, inr, refl, get_or, eqb}
use Rattle.std.specs.declared.cmp.Ordering.{Ordering}
use Rattle.std.specs.declared.cmp.Ordering.TheVariants.{Less, Equal, Greater}
use Rattle.std.specs.Ordering.{eq_by_cmp, is_eq, is_lt, ordering_then, ordering_reverse}
use Rattle.std.specs.List.{list_any, swap, AllByRecursion}
use Rattle.std.specs.Cmp.{IsStrictWeakOrder, both_ways}
use Rattle.std.specs.Cmp.Lexicographic.{nat_list_cmp_total}
use Rattle.std.proofs.lemmas.List.Sorted.{ranks_by, sorted_far, IsPermutation-keeps, IsPermutation-sym}
use Rattle.std.proofs.lemmas.Bool.{eqb-true, eq-eqb}
use Rattle.std.proofs.lemmas.List.{length-map}
use Rattle.std.proofs.lemmas.List.Edits.{swapped_from_swap, length-swap}
use Rattle.paths.specs.Order.{name_cmp, path_cmp, path_eq}
use Rattle.paths.specs.OrderLaws.{path_cmp_total, path_ties}
use Rattle.paths.specs.Fronts.{is_front}
use Rattle.paths.proofs.PathLaws.{path_cmp-append}
use Rattle.paths.proofs.FrontLaws.{name_same, name_itself, path_same, path_itself, both_first, both_second, both_hold, front-parts}
use Rattle.trees.specs.TreeMap.{is_file}
use Rattle.trees.specs.Row.{Row}
use Rattle.entries.specs.Listing.{is_in_way, clash, are_apart}
use Rattle.entries.specs.PrivateOrder.{fits_after, follows, in_order_after}

-- a path doesn't stand before another
abbrev pub NotBefore : List (List ℕ) → List (List ℕ) → Type 0
NotBefore p q = is_lt (path_cmp p q) ≡ false

then-first : (r s : Ordering) → is_lt (ordering_then r s) ≡ false → is_lt r ≡ false
then-first Less s e = absurd (true≢false e)
then-first Equal s e = refl
then-first Greater s e = refl

then-second : (r s : Ordering) → r ≡ Equal → is_lt (ordering_then r s) ≡ false → is_lt s ≡ false
then-second r s same e = subst (λ (o : Ordering). is_lt (ordering_then o s) ≡ false) same e

-- neither way less is equal
no-less : (r s : Ordering) → r ≡ ordering_reverse s → is_lt r ≡ false → is_lt s ≡ false → r ≡ Equal
no-less Less s e h i = absurd (true≢false h)
no-less Equal s e h i = refl
no-less Greater Less e h i = absurd (true≢false i)
no-less Greater Equal e h i = e
no-less Greater Greater e h i = absurd (cc)

names-tie : (c d : List ℕ) → is_lt (name_cmp c d) ≡ false → is_lt (name_cmp d c) ≡ false → c ≡ d
names-tie c d h i = name_same c d (ap (λ r. is_eq r) (no-less (name_cmp c d) (name_cmp d c) (nat_list_cmp_total.antisymm c d) h i))

paths-tie : (p q : List (List ℕ)) → NotBefore p q → NotBefore q p → p ≡ q
paths-tie p q h i = path_same p q (ap (λ r. is_eq r) (no-less (path_cmp p q) (path_cmp q p) (path_cmp_total.antisymm p q) h i))

-- what stands between a path and one below it is the path, or below it
between : (f y z : List (List ℕ)) → is_front f z ≡ true → NotBefore y f → NotBefore z y → (y ≡ f) ⊎ (is_front f y ≡ true)
between [] [] z way h i = inl refl
between [] (e ∷ es) z way h i = inr refl
between (d ∷ ds) y [] way h i = absurd (true≢false (sym way))
between (d ∷ ds) [] (c ∷ cs) way h i = absurd (true≢false h)
between (d ∷ ds) (e ∷ es) (c ∷ cs) way h i =
    let same : d ≡ c = name_same d c (both_first (eq_by_cmp name_cmp d c) (is_front ds cs) way) in
    let below : is_front ds cs ≡ true = both_second (eq_by_cmp name_cmp d c) (is_front ds cs) way in
    let ed = then-first (name_cmp e d) (path_cmp es ds) h in
    let ce = then-first (name_cmp c e) (path_cmp cs es) i in
    let de = subst (λ (x : List ℕ). is_lt (name_cmp x e) ≡ false) (sym same) ce in
    let tied : e ≡ d = names-tie e d ed de in
    let ed-equal : name_cmp e d ≡ Equal = no-less (name_cmp e d) (name_cmp d e) (nat_list_cmp_total.antisymm e d) ed de in
    let ce-equal : name_cmp c e ≡ Equal = no-less (name_cmp c e) (name_cmp e c) (nat_list_cmp_total.antisymm c e) ce (subst (λ (x : List ℕ). is_lt (name_cmp e x) ≡ false) same ed) in
    elim (between ds es cs below (then-second (name_cmp e d) (path_cmp es ds) ed-equal h) (then-second (name_cmp c e) (path_cmp cs es) ce-equal i)) [
      | inl rest ↦ inl (λ k. tied k ∷ rest k)
      | inr front ↦ inr (both_hold (eq_by_cmp name_cmp d e) (is_front ds es) (subst (λ (x : List ℕ). eq_by_cmp name_cmp d x ≡ true) (sym tied) (name_itself d)) front)
    ]

-- a front of a path stands before it
front-before : (f p : List (List ℕ)) → is_front f p ≡ true → is_lt (path_cmp f p) ≡ true
front-before f p way =
    let parts = front-parts f p way in
    ap (λ q. is_lt (path_cmp f q)) parts.1.1 ∙ ap (λ r. is_lt r) (path_cmp-append f parts.0 parts.1.0)

path_eq-itself : (p : List (List ℕ)) → path_eq p p ≡ true
path_eq-itself p = path_ties p p ∙ path_itself p

path_eq-same : (p q : List (List ℕ)) → path_eq p q ≡ true → p ≡ q
path_eq-same p q h = path_same p q (sym (path_ties p q) ∙ h)

either : (a b : Bool) → (a || b) ≡ true → (a ≡ true) ⊎ (b ≡ true)
either true b h = inl h
either false b h = inr h

or-first : (a b : Bool) → a ≡ true → (a || b) ≡ true
or-first true b h = h
or-first false b h = absurd (true≢false (sym h))

or-second : (a b : Bool) → b ≡ true → (a || b) ≡ true
or-second true b h = refl
or-second false b h = h

pub clash-same : (row other : Row) → row.0 ≡ other.0 → clash row other ≡ true
clash-same row other same =
    or-first (path_eq row.0 other.0) (is_in_way row other || is_in_way other row) (subst (λ (p : List (List ℕ)). path_eq row.0 p ≡ true) same (path_eq-itself row.0))

pub clash-way : (row other : Row) → is_in_way row other ≡ true → clash row other ≡ true
clash-way row other way =
    or-second (path_eq row.0 other.0) (is_in_way row other || is_in_way other row) (or-first (is_in_way row other) (is_in_way other row) way)

pub clash-back : (row other : Row) → is_in_way other row ≡ true → clash row other ≡ true
clash-back row other way =
    or-second (path_eq row.0 other.0) (is_in_way row other || is_in_way other row) (or-second (is_in_way row other) (is_in_way other row) way)

-- the three ways to clash
pub clash-how : (row other : Row) → clash row other ≡ true → (row.0 ≡ other.0) ⊎ ((is_in_way row other ≡ true) ⊎ (is_in_way other row ≡ true))
clash-how row other h = elim (either (path_eq row.0 other.0) (is_in_way row other || is_in_way other row) h) [
  | inl same ↦ inl (path_eq-same row.0 other.0 same)
  | inr ways ↦ inr (either (is_in_way row other) (is_in_way other row) ways)
]

pub clash-flip : (row other : Row) → clash row other ≡ true → clash other row ≡ true
clash-flip row other h = elim (clash-how row other h) [
  | inl same ↦ clash-same other row (sym same)
  | inr ways ↦ elim ways [ inl way ↦ clash-back other row way | inr way ↦ clash-way other row way ]
]

-- what clashes with a later row clashes with the next
clash-between : (x y z : Row) → NotBefore y.0 x.0 → NotBefore z.0 y.0 → NotBefore z.0 x.0 → clash x z ≡ true → clash x y ≡ true
clash-between x y z xy yz xz h = elim (clash-how x z h) [
  | inl same ↦ clash-same x y (paths-tie x.0 y.0 (subst (λ (p : List (List ℕ)). NotBefore p y.0) (sym same) yz) xy)
  | inr ways ↦ elim ways [
    | inl way ↦
        let file = both_first (is_file (Some x.1)) (is_front x.0 z.0) way in
        elim (between x.0 y.0 z.0 (both_second (is_file (Some x.1)) (is_front x.0 z.0) way) xy yz) [
          | inl same ↦ clash-same x y (sym same)
          | inr front ↦ clash-way x y (both_hold (is_file (Some x.1)) (is_front x.0 y.0) file front)
        ]
    | inr way ↦ absurd (true≢false (sym (front-before z.0 x.0 (both_second (is_file (Some z.1)) (is_front z.0 x.0) way)) ∙ xz))
  ]
]

-- rows in order: none stands before one that it comes after
abbrev InOrder : List Row → Type 0
InOrder [] = Unit {0}
InOrder (row ∷ rows) = AllByRecursion (λ (other : Row). NotBefore other.0 row.0) rows × InOrder rows

later-apart : (x y : Row) (rest : List Row) → clash x y ≡ false → NotBefore y.0 x.0 → AllByRecursion (λ (z : Row). NotBefore z.0 y.0) rest → AllByRecursion (λ (z : Row). NotBefore z.0 x.0) rest → list_any (clash x) rest ≡ false
later-apart x y [] none xy yz xz = refl
later-apart x y (z ∷ rest) none xy yz xz = by (later-apart x y rest none xy yz.1 xz.1) (clash x z) refl
  where
    by : list_any (clash x) rest ≡ false → (b : Bool) → clash x z ≡ b → (b || list_any (clash x) rest) ≡ false
    by more true e = absurd (true≢false (sym (clash-between x y z xy yz.0 xz.0 e) ∙ none))
    by more false e = more

-- among rows in order it is enough to look at neighbours
fits-apart : (rows : List Row) → InOrder rows → fits_after None rows ≡ are_apart rows
fits-apart [] order = refl
fits-apart (x ∷ []) order = refl
fits-apart (x ∷ y ∷ rest) order =
    ap (λ b. not (clash x y) && b) (fits-apart (y ∷ rest) order.1) ∙ by (clash x y) refl
  where
    by : (b : Bool) → clash x y ≡ b → (not (clash x y) && are_apart (y ∷ rest)) ≡ (not (clash x y || list_any (clash x) rest) && are_apart (y ∷ rest))
    by true e = (λ k. not (e k) && are_apart (y ∷ rest)) ∙ sym (λ k. not (e k || list_any (clash x) rest) && are_apart (y ∷ rest))
    by false e =
        ap (λ c. not c && are_apart (y ∷ rest)) e
        ∙ sym ((λ k. not (e k || list_any (clash x) rest) && are_apart (y ∷ rest)) ∙ ap (λ c. not c && are_apart (y ∷ rest)) (later-apart x y rest e order.0.0 order.1.0 order.0.1))

all-from-index : (p : List (List ℕ)) (rows : List Row) → ((j : ℕ) (d : Row) → j < length rows → NotBefore (get_or rows j d).0 p) → AllByRecursion (λ (other : Row). NotBefore other.0 p) rows
all-from-index p [] h = tt
all-from-index p (row ∷ rows) h = (h 0 row (omega arith), all-from-index p rows (λ j d less. h (suc j) d (omega arith)))

order-from-index : (rows : List Row) → ((i j : ℕ) (d : Row) → i ≤ j → j < length rows → NotBefore (get_or rows j d).0 (get_or rows i d).0) → InOrder rows
order-from-index [] h = tt
order-from-index (row ∷ rows) h =
    (all-from-index row.0 rows (λ j d less. h 0 (suc j) d (omega arith) (omega arith)), order-from-index rows (λ i j d le less. h (suc i) (suc j) d (omega arith) (omega arith)))

-- rows by what they are before one another
abbrev pub row_lt : Row → Row → Bool
row_lt row other = is_lt (path_cmp row.0 other.0)

pub row_lt-weak : IsStrictWeakOrder row_lt
row_lt-weak = ranks_by path_cmp_total (λ (row : Row). row.0)

sorted-order : (rows : List Row) → IsSortedBy row_lt rows → InOrder rows
sorted-order rows up = order-from-index rows (λ i j d le less. sorted_far row_lt row_lt-weak rows up i j d le less)

-- no two of the rows at different places clash
abbrev Apart : List Row → Type 0
Apart rows = (i j : ℕ) (d : Row) → i < length rows → j < length rows → (i ≡ j → ⊥) → clash (get_or rows i d) (get_or rows j d) ≡ false

none-first : (a b : Bool) → (a || b) ≡ false → a ≡ false
none-first true b h = absurd (true≢false h)
none-first false b h = refl

none-rest : (a b : Bool) → (a || b) ≡ false → b ≡ false
none-rest true b h = absurd (true≢false h)
none-rest false b h = h

none-at : (row : Row) (rows : List Row) → list_any (clash row) rows ≡ false → (j : ℕ) (d : Row) → j < length rows → clash row (get_or rows j d) ≡ false
none-at row [] h j d less = absurd (omega arith)
none-at row (other ∷ rows) h zero d less = none-first (clash row other) (list_any (clash row) rows) h
none-at row (other ∷ rows) h (suc j) d less = none-at row rows (none-rest (clash row other) (list_any (clash row) rows) h) j d (omega arith)

not-clash-flip : (row other : Row) → clash row other ≡ false → clash other row ≡ false
not-clash-flip row other h = by (clash other row) refl
  where
    by : (b : Bool) → clash other row ≡ b → b ≡ false
    by true e = absurd (true≢false (sym (clash-flip other row e) ∙ h))
    by false e = refl

not-true : (b : Bool) → not b ≡ true → b ≡ false
not-true true h = absurd (true≢false (sym h))
not-true false h = refl

apart-from : (rows : List Row) → are_apart rows ≡ true → Apart rows
apart-from [] h i j d l m off = absurd (omega arith)
apart-from (row ∷ rows) h zero zero d l m off = absurd (off refl)
apart-from (row ∷ rows) h zero (suc j) d l m off =
    none-at row rows (not-true (list_any (clash row) rows) (both_first (not (list_any (clash row) rows)) (are_apart rows) h)) j d (omega arith)
apart-from (row ∷ rows) h (suc i) zero d l m off =
    not-clash-flip row (get_or rows i d) (none-at row rows (not-true (list_any (clash row) rows) (both_first (not (list_any (clash row) rows)) (are_apart rows) h)) i d (omega arith))
apart-from (row ∷ rows) h (suc i) (suc j) d l m off =
    apart-from rows (both_second (not (list_any (clash row) rows)) (are_apart rows) h) i j d (omega arith) (omega arith) (λ e. off (ap (λ (n : ℕ). suc n) e))

none-from : (row : Row) (rows : List Row) → ((j : ℕ) (d : Row) → j < length rows → clash row (get_or rows j d) ≡ false) → list_any (clash row) rows ≡ false
none-from row [] h = refl
none-from row (other ∷ rows) h = ap (λ b. b || list_any (clash row) rows) (h 0 other (omega arith)) ∙ none-from row rows (λ j d less. h (suc j) d (omega arith))

apart-is : (rows : List Row) → Apart rows → are_apart rows ≡ true
apart-is [] h = refl
apart-is (row ∷ rows) h =
    both_hold (not (list_any (clash row) rows)) (are_apart rows)
    (ap (λ b. not b) (none-from row rows (λ j d less. h 0 (suc j) d (omega arith) (omega arith) (λ e. absurd (omega arith)))))
    (apart-is rows (λ i j d l m off. h (suc i) (suc j) d (omega arith) (omega arith) (λ e. off (omega arith))))

-- where an element of a list of which two were exchanged stood before
moved : (rows : List Row) (a b : ℕ) (i : ℕ) → a < length rows → b < length rows → i < length rows
    → (k : ℕ) × ((k < length rows) × (((d : Row) → get_or (swap rows a b) i d ≡ get_or rows k d) × (((i ≡ a) × (k ≡ b)) ⊎ (((i ≡ b) × (k ≡ a)) ⊎ (((i ≡ a) → ⊥) × (((i ≡ b) → ⊥) × (k ≡ i)))))))
moved rows a b i la lb li = by (eqb i a) refl (eqb i b) refl
  where
    by : (x : Bool) → eqb i a ≡ x → (y : Bool) → eqb i b ≡ y
        → (k : ℕ) × ((k < length rows) × (((d : Row) → get_or (swap rows a b) i d ≡ get_or rows k d) × (((i ≡ a) × (k ≡ b)) ⊎ (((i ≡ b) × (k ≡ a)) ⊎ (((i ≡ a) → ⊥) × (((i ≡ b) → ⊥) × (k ≡ i)))))))
    by true e y f = (b, (lb, ((λ d. let same : i ≡ a = eqb-true i a e in ap (λ n. get_or (swap rows a b) n d) same ∙ (swapped_from_swap rows (swap rows a b) a b d la lb refl).0), inl (eqb-true i a e, refl))))
    by false e true f = (a, (la, ((λ d. let same : i ≡ b = eqb-true i b f in ap (λ n. get_or (swap rows a b) n d) same ∙ (swapped_from_swap rows (swap rows a b) a b d la lb refl).1), inr (inl (eqb-true i b f, refl)))))
    by false e false f = (i, (li, ((λ d. (swapped_from_swap rows (swap rows a b) a b d la lb refl).2 i (off i a e) (off i b f)), inr (inr (off i a e, (off i b f, refl))))))
      where
        off : (m n : ℕ) → eqb m n ≡ false → m ≡ n → ⊥
        off m n h same = true≢false (sym (eq-eqb m n same) ∙ h)

swap-apart : (rows : List Row) (a b : ℕ) → a < length rows → b < length rows → Apart rows → Apart (swap rows a b)
swap-apart rows a b la lb apart i j d li lj off =
    let same = length-swap rows a b in
    let p = moved rows a b i la lb (omega arith) in
    let q = moved rows a b j la lb (omega arith) in
    (λ k. clash (p.1.1.0 d k) (q.1.1.0 d k)) ∙ apart p.0 q.0 d p.1.0 q.1.0 (λ e. off (again i j p.0 q.0 e p.1.1.1 q.1.1.1))
  where
    again : (i j k l : ℕ) → k ≡ l → ((i ≡ a) × (k ≡ b)) ⊎ (((i ≡ b) × (k ≡ a)) ⊎ (((i ≡ a) → ⊥) × (((i ≡ b) → ⊥) × (k ≡ i)))) → ((j ≡ a) × (l ≡ b)) ⊎ (((j ≡ b) × (l ≡ a)) ⊎ (((j ≡ a) → ⊥) × (((j ≡ b) → ⊥) × (l ≡ j)))) → i ≡ j
    again i j k l e (inl x) (inl y) = x.0 ∙ sym y.0
    again i j k l e (inl x) (inr (inl y)) = let f = x.0 in let g = x.1 in let h = y.0 in let m = y.1 in omega arith
    again i j k l e (inl x) (inr (inr y)) = absurd (y.1.0 (sym y.1.1 ∙ sym e ∙ x.1))
    again i j k l e (inr (inl x)) (inl y) = let f = x.0 in let g = x.1 in let h = y.0 in let m = y.1 in omega arith
    again i j k l e (inr (inl x)) (inr (inl y)) = x.0 ∙ sym y.0
    again i j k l e (inr (inl x)) (inr (inr y)) = absurd (y.0 (sym y.1.1 ∙ sym e ∙ x.1))
    again i j k l e (inr (inr x)) (inl y) = absurd (x.1.0 (sym x.1.1 ∙ e ∙ y.1))
    again i j k l e (inr (inr x)) (inr (inl y)) = absurd (x.0 (sym x.1.1 ∙ e ∙ y.1))
    again i j k l e (inr (inr x)) (inr (inr y)) = sym x.1.1 ∙ e ∙ y.1.1

permuted-apart : (xs ys : List Row) → IsPermutation xs ys → are_apart xs ≡ true → are_apart ys ≡ true
permuted-apart xs ys is h = apart-is ys (IsPermutation-keeps xs Apart (apart-from xs h) (λ rows a b la lb apart. swap-apart rows a b la lb apart) ys is)

-- neighbours among the sorted rows tell whether any two of the rows clash
pub neighbours-tell : (xs ys : List Row) → IsPermutation xs ys → IsSortedBy row_lt ys → fits_after None ys ≡ are_apart xs
neighbours-tell xs ys is up = fits-apart ys (sorted-order ys up) ∙ both_ways (are_apart ys) (are_apart xs) (λ h. permuted-apart ys xs (IsPermutation-sym xs ys is) h) (λ h. permuted-apart xs ys is h)

get-map : {A : Type 0} (f : A → Row) (xs : List A) (n : ℕ) (d : Row) (x : A) → n < length xs → get_or (map f xs) n d ≡ f (get_or xs n x)
get-map f [] n d x less = absurd (omega arith)
get-map f (y ∷ xs) zero d x less = refl
get-map f (y ∷ xs) (suc n) d x less = get-map f xs n d x (omega arith)

-- what is sorted by the rows that it shows shows sorted rows
pub sorted-map : {A : Type 0} (f : A → Row) (xs : List A) → IsSortedBy (λ x y. row_lt (f x) (f y)) xs → IsSortedBy row_lt (map f xs)
sorted-map f [] up k d l m = absurd (omega arith)
sorted-map f (x ∷ xs) up k d l m =
    let same : length (map f (x ∷ xs)) ≡ length (x ∷ xs) = length-map (x ∷ xs) f in
    (λ i. row_lt (get-map f (x ∷ xs) (k + 1) d x (omega arith) i) (get-map f (x ∷ xs) k d x (omega arith) i)) ∙ up k x l (omega arith)

-- of two orderings that are each other turned round, one is less at most
less-once : (r s : Ordering) → r ≡ ordering_reverse s → is_lt r ≡ true → is_lt s ≡ false
less-once r Less e h = absurd (true≢false (sym h ∙ ap (λ o. is_lt o) e))
less-once r Equal e h = refl
less-once r Greater e h = refl

no-return : (p q : List (List ℕ)) → is_lt (path_cmp p q) ≡ true → NotBefore q p
no-return p q h = less-once (path_cmp p q) (path_cmp q p) (path_cmp_total.antisymm p q) h

-- a row that follows another one doesn't clash with it
follows-fits : (x y : Row) → follows x y ≡ true → clash x y ≡ false
follows-fits x y h = by (clash x y) refl
  where
    less : is_lt (path_cmp x.0 y.0) ≡ true
    less = both_first (is_lt (path_cmp x.0 y.0)) (not (is_in_way x y)) h

    by : (b : Bool) → clash x y ≡ b → b ≡ false
    by true e = elim (clash-how x y e) [
      | inl same ↦ absurd (true≢false (sym less ∙ (λ k. is_lt (path_cmp (same k) (sym same k))) ∙ no-return x.0 y.0 less))
      | inr ways ↦ elim ways [
        | inl way ↦ absurd (true≢false (sym way ∙ not-true (is_in_way x y) (both_second (is_lt (path_cmp x.0 y.0)) (not (is_in_way x y)) h)))
        | inr way ↦ absurd (true≢false (sym (front-before y.0 x.0 (both_second (is_file (Some y.1)) (is_front y.0 x.0) way)) ∙ no-return x.0 y.0 less))
      ]
    ]
    by false e = refl

order-fits : (before : Option Row) (rows : List Row) → in_order_after before rows ≡ true → fits_after before rows ≡ true
order-fits before [] h = refl
order-fits None (row ∷ rows) h = order-fits (Some row) rows h
order-fits (Some last) (row ∷ rows) h =
    both_hold (not (clash last row)) (fits_after (Some row) rows)
    (ap (λ b. not b) (follows-fits last row (both_first (follows last row) (in_order_after (Some row) rows) h)))
    (order-fits (Some row) rows (both_second (follows last row) (in_order_after (Some row) rows) h))

order-rises : (x : Row) (rows : List Row) → in_order_after (Some x) rows ≡ true → (k : ℕ) (d : Row) → suc k < length (x ∷ rows) → row_lt (get_or (x ∷ rows) (suc k) d) (get_or (x ∷ rows) k d) ≡ false
order-rises x [] h k d less = absurd (omega arith)
order-rises x (y ∷ rows) h zero d less =
    no-return x.0 y.0 (both_first (is_lt (path_cmp x.0 y.0)) (not (is_in_way x y)) (both_first (follows x y) (in_order_after (Some y) rows) h))
order-rises x (y ∷ rows) h (suc k) d less = order-rises y rows (both_second (follows x y) (in_order_after (Some y) rows) h) k d (omega arith)

order-sorted : (rows : List Row) → in_order_after None rows ≡ true → IsSortedBy row_lt rows
order-sorted [] h k d l m = absurd (omega arith)
order-sorted (x ∷ rows) h k d l m = rw add-one (order-rises x rows h k d (omega arith))

-- rows that follow one another are apart
pub order-apart : (rows : List Row) → in_order_after None rows ≡ true → are_apart rows ≡ true
order-apart rows h = sym (fits-apart rows (sorted-order rows (order-sorted rows h))) ∙ order-fits None rows h
