-- What the code of parts does, step by step.
use Rattle.std.specs.Prelude.{◌≡◌, ℕ, ◌+◌, ◌<◌, ◌≤◌, Bool, true, false, ◌==◌, cond, Option, Some, None, Result, Ok, Err, OnOk, OnErr, IfSome, IfNone, if◌then◌else◌, is_ok, List, [], ◌∷◌, ◌++◌, length, take, drop, set, get_or, ◌↔◌}
use Rattle.std.proofs.Common.{sym, ap, refl, ◌∙◌, subst, true≢false, append_assoc, zero, suc, add-one, arith}
use Rattle.std.proofs.lemmas.List.{drop_more, set-get_or, set_split, take_more_set, take-set, drop-set-lt}
use Rattle.std.specs.List.{insert, remove}
use Rattle.std.specs.Arc.{arc_value}
use Rattle.std.specs.declared.sync.Arc.{Arc}
use Rattle.std.specs.Map.{lookup}
use Rattle.std.specs.BTreeMap.{is_at}
use Rattle.std.specs.FinMap.{find}
use Rattle.paths.specs.Order.{name_cmp}
use Rattle.std.specs.Map.{keys_of}
use Rattle.std.specs.Cmp.{eq_by_cmp_equiv}
use Rattle.std.specs.Cmp.Lexicographic.{nat_list_cmp_total}
use Rattle.std.specs.Ordering.{eq_by_cmp}
use Rattle.std.specs.FinMap.Entries.{is_sorted}
use Rattle.paths.proofs.FrontLaws.{name_same, both_hold, both_first, both_second}
use Rattle.trees.specs.PrivateNode.{NodeValue, lists_of, flat, is_full, are_full, are_parts, begins_past, IsPlace, AreKids, IsPut, IsTaken, IsHalved}
use Rattle.trees.proofs.PartLists.{IsSearched, search-start, search-down, search-up, search-done, find-between, changed-between, same-sorted, same-full, full-append, full-second, full-first, flat-one, flat-append, split-at, between, are_under, under-first, under-none, sorted-under, sorted-second, under-insert, insert-under, full-insert, under-remove, remove-under, flat-cut}
use Rattle.trees.proofs.NodeLaws.{lookup-find}
use Rattle.trees.proofs.KidLists.{sorted-from_keys}

module _ {Z : Type 0} where
  pub lists-append : (xs ys : List (Arc (List (List ℕ × NodeValue)) Z)) → lists_of (xs ++ ys) ≡ lists_of xs ++ lists_of ys
  lists-append [] ys = refl
  lists-append (x ∷ xs) ys = ap (λ l. (arc_value x) ∷ l) (lists-append xs ys)

  pub lists-length : (xs : List (Arc (List (List ℕ × NodeValue)) Z)) → length (lists_of xs) ≡ length xs
  lists-length [] = refl
  lists-length (x ∷ xs) = ap suc (lists-length xs)

  pub lists-take : (at : ℕ) (xs : List (Arc (List (List ℕ × NodeValue)) Z)) → lists_of (take at xs) ≡ take at (lists_of xs)
  lists-take zero xs = refl
  lists-take (suc at) [] = refl
  lists-take (suc at) (x ∷ xs) = ap (λ l. (arc_value x) ∷ l) (lists-take at xs)

  pub lists-drop : (at : ℕ) (xs : List (Arc (List (List ℕ × NodeValue)) Z)) → lists_of (drop at xs) ≡ drop at (lists_of xs)
  lists-drop zero xs = refl
  lists-drop (suc at) [] = refl
  lists-drop (suc at) (x ∷ xs) = lists-drop at xs

  pub lists-get : (xs : List (Arc (List (List ℕ × NodeValue)) Z)) (at : ℕ) (x : Arc (List (List ℕ × NodeValue)) Z) (d : List (List ℕ × NodeValue)) → at < length xs → x ≡ get_or xs at x → (arc_value x) ≡ get_or (lists_of xs) at d
  lists-get [] at x d less is = absurd (omega arith)
  lists-get (y ∷ ys) zero x d less is = ap (λ (a : Arc (List (List ℕ × NodeValue)) Z). (arc_value a)) is
  lists-get (y ∷ ys) (suc at) x d less is = lists-get ys at x d (omega arith) is

  -- one shared more
  pub share-step : (shared parts : List (Arc (List (List ℕ × NodeValue)) Z)) (at : ℕ) (x part : Arc (List (List ℕ × NodeValue)) Z) → lists_of shared ++ lists_of (drop at parts) ≡ lists_of parts → at < length parts → part ≡ get_or parts at part → arc_value x ≡ arc_value part
      → lists_of (shared ++ x ∷ []) ++ lists_of (drop (at + 1) parts) ≡ lists_of parts
  share-step shared parts at x part so_far less is same =
      ap (λ l. l ++ lists_of (drop (at + 1) parts)) (lists-append shared (x ∷ []) ∙ (λ i. lists_of shared ++ same i ∷ []))
      ∙ append_assoc (lists_of shared) ((arc_value part) ∷ []) (lists_of (drop (at + 1) parts))
      ∙ ap (λ l. lists_of shared ++ l) (sym (ap lists_of (drop_more parts at part less ∙ ap (λ q. q ∷ drop (at + 1) parts) (sym is)))) ∙ so_far

module _ {Z : Type 0} (name : List ℕ) (items : List (Arc (List (List ℕ × NodeValue)) Z)) (parts : are_parts (lists_of items) ≡ true) where
  pub place-start : IsSearched name (lists_of items) 0 (length items)
  place-start = subst (λ (n : ℕ). IsSearched name (lists_of items) 0 n) (lists-length items) (search-start name (lists_of items) parts)

  module _ (low high mid : ℕ) (so_far : IsSearched name (lists_of items) low high) where
    pub place-down : low < mid → mid < high → (x : Arc (List (List ℕ × NodeValue)) Z) → x ≡ get_or items mid x → (told : Bool) → told ≡ begins_past name (arc_value x) → told ≡ true → IsSearched name (lists_of items) low mid
    place-down more less_high x is told says t =
        search-down name (lists_of items) parts low high mid so_far (arc_value x) less_high (lists-get items mid x (arc_value x) (let w = so_far.within in let e = lists-length items in omega arith) is) more (sym says ∙ t)

    pub place-up : mid < high → (x : Arc (List (List ℕ × NodeValue)) Z) → x ≡ get_or items mid x → (told : Bool) → told ≡ begins_past name (arc_value x) → told ≡ false → IsSearched name (lists_of items) mid high
    place-up less_high x is told says f =
        search-up name (lists_of items) parts low high mid so_far (arc_value x) less_high (lists-get items mid x (arc_value x) (let w = so_far.within in let e = lists-length items in omega arith) is) (sym says ∙ f)

  pub place-done : (low high : ℕ) → IsSearched name (lists_of items) low high → high ≤ low + 1 → IsPlace name (lists_of items) low
  place-done low high so_far near = search-done name (lists_of items) parts low high so_far near

module _ {Z : Type 0} (name : List ℕ) (seen items lent : List (Arc (List (List ℕ × NodeValue)) Z)) (kids : List (List ℕ × NodeValue)) (at : ℕ) where
  pub get-found : (part : Arc (List (List ℕ × NodeValue)) Z) (map : List (List ℕ × NodeValue)) (found : Option NodeValue) → flat (lists_of items) ≡ kids → IsPlace name (lists_of seen) at → seen ≡ items → lent ≡ items
      → at < length lent → part ≡ get_or lent at part → map ≡ arc_value part → found ≡ lookup (is_at (name_cmp name)) map → found ≡ lookup (is_at (name_cmp name)) kids
  get-found part map found view place s l less is m f =
      let here : IsPlace name (lists_of items) at = subst (λ (xs : List (Arc (List (List ℕ × NodeValue)) Z)). IsPlace name (lists_of xs) at) s place in
      let p = (arc_value part) in
      let inside : at < length (lists_of items) = (let e = lists-length items in let h = ap length l in omega arith) in
      let same : p ≡ get_or (lists_of items) at p = lists-get lent at part p less is ∙ (λ i. get_or (lists_of (l i)) at p) in
      f ∙ ap (lookup (is_at (name_cmp name))) m ∙ lookup-find name p
      ∙ sym (find-between name (flat (take at (lists_of items))) p (flat (drop (at + 1) (lists_of items))) here.before here.behind)
      ∙ ap (find name_cmp name) (sym (flat-cut (lists_of items) at p inside same) ∙ view) ∙ sym (lookup-find name kids)

  pub get-none : flat (lists_of items) ≡ kids → IsPlace name (lists_of seen) at → seen ≡ items → lent ≡ items → length lent ≤ at → None ≡ lookup (is_at (name_cmp name)) kids
  get-none view place s l past = by items (subst (λ (xs : List (Arc (List (List ℕ × NodeValue)) Z)). IsPlace name (lists_of xs) at) s place) (let e = lists-length items in let h = ap length l in omega arith) view
    where
      by : (xs : List (Arc (List (List ℕ × NodeValue)) Z)) → IsPlace name (lists_of xs) at → length (lists_of xs) ≤ at → flat (lists_of xs) ≡ kids → None ≡ lookup (is_at (name_cmp name)) kids
      by [] here far e = ap (lookup (is_at (name_cmp name))) e
      by (x ∷ xs) here far e = absurd (let w = here.within (omega arith) in omega arith)

-- what a map says of one changed name, by what is found
pub found-changed : (old new : List (List ℕ × NodeValue)) (name : List ℕ) (kid : Option NodeValue) → ((q : List ℕ) → lookup (is_at (name_cmp q)) new ≡ cond (is_at (name_cmp name) q) kid (lookup (is_at (name_cmp q)) old))
    → (d : List ℕ) → find name_cmp d new ≡ cond (eq_by_cmp name_cmp d name) kid (find name_cmp d old)
found-changed old new name kid at d = sym (lookup-find d new) ∙ at d ∙ (λ i. cond ((eq_by_cmp_equiv nat_list_cmp_total).symm name d i) kid (lookup-find d old i))

-- one part of a folder's is another
module _ {Z : Type 0} (items : List (Arc (List (List ℕ × NodeValue)) Z)) (at : ℕ) (x y : Arc (List (List ℕ × NodeValue)) Z) (inside : at < length items) (is : x ≡ get_or items at x) where
  abbrev before : List (List ℕ × NodeValue)
  before = flat (take at (lists_of items))

  abbrev behind : List (List ℕ × NodeValue)
  behind = flat (drop (at + 1) (lists_of items))

  lists-set : (xs : List (Arc (List (List ℕ × NodeValue)) Z)) (n : ℕ) → lists_of (set xs n y) ≡ set (lists_of xs) n (arc_value y)
  lists-set [] n = refl
  lists-set (z ∷ zs) zero = refl
  lists-set (z ∷ zs) (suc n) = ap (λ l. (arc_value z) ∷ l) (lists-set zs n)

  here : at < length (lists_of items)
  here = let e = lists-length items in omega arith

  part_is : (arc_value x) ≡ get_or (lists_of items) at (arc_value x)
  part_is = lists-get items at x (arc_value x) inside is

  cut-old : flat (lists_of items) ≡ before ++ ((arc_value x) ++ behind)
  cut-old = flat-cut (lists_of items) at (arc_value x) here part_is

  split-new : lists_of (set items at y) ≡ take at (lists_of items) ++ (arc_value y) ∷ drop (at + 1) (lists_of items)
  split-new = lists-set items at ∙ set_split (lists_of items) at (arc_value y) here ∙ (λ i. take at (lists_of items) ++ (arc_value y) ∷ drop (sym (add-one at) i) (lists_of items))

  pub cut-new : flat (lists_of (set items at y)) ≡ before ++ ((arc_value y) ++ behind)
  cut-new = ap flat split-new ∙ flat-one (take at (lists_of items)) (arc_value y) (drop (at + 1) (lists_of items))

  -- of the same children
  pub item-same : (arc_value y) ≡ (arc_value x) → lists_of (set items at y) ≡ lists_of items
  item-same same = lists-set items at ∙ ap (set (lists_of items) at) (same ∙ part_is) ∙ set-get_or (lists_of items) at (arc_value x)

  module _ (parts : are_parts (lists_of items) ≡ true) where
    pub item-same_parts : (arc_value y) ≡ (arc_value x) → are_parts (lists_of (set items at y)) ≡ true
    item-same_parts same = ap are_parts (item-same same) ∙ parts

    pub split-full : are_full (take at (lists_of items) ++ (arc_value x) ∷ drop (at + 1) (lists_of items)) ≡ true
    split-full = ap are_full (sym (split-at (lists_of items) at (arc_value x) here part_is)) ∙ both_first _ _ parts

    pub x_full : is_full (arc_value x) ≡ true
    x_full = both_first _ _ (full-second (take at (lists_of items)) ((arc_value x) ∷ drop (at + 1) (lists_of items)) split-full)

    new-full : is_full (arc_value y) ≡ true → are_full (lists_of (set items at y)) ≡ true
    new-full f =
        ap are_full split-new
        ∙ full-append (take at (lists_of items)) ((arc_value y) ∷ drop (at + 1) (lists_of items)) (full-first (take at (lists_of items)) _ split-full)
        (both_hold _ _ f (both_second (is_full (arc_value x)) _ (full-second (take at (lists_of items)) ((arc_value x) ∷ drop (at + 1) (lists_of items)) split-full)))

    pub old-sorted : is_sorted name_cmp (before ++ ((arc_value x) ++ behind)) ≡ true
    old-sorted = ap (is_sorted name_cmp) (sym cut-old) ∙ both_second (are_full (lists_of items)) _ parts

    pub new-parts : is_full (arc_value y) ≡ true → is_sorted name_cmp (before ++ ((arc_value y) ++ behind)) ≡ true → are_parts (lists_of (set items at y)) ≡ true
    new-parts f s = both_hold _ _ (new-full f) (ap (is_sorted name_cmp) cut-new ∙ s)

    -- of the same names
    pub item-keys : keys_of (arc_value y) ≡ keys_of (arc_value x) → are_parts (lists_of (set items at y)) ≡ true
    item-keys same = new-parts (same-full (arc_value x) (arc_value y) same x_full) (same-sorted before (arc_value x) (arc_value y) behind same old-sorted)

  module _ (name : List ℕ) (place : IsPlace name (lists_of items) at) (kids : List (List ℕ × NodeValue)) (view : flat (lists_of items) ≡ kids) where
    pub item-found : find name_cmp name kids ≡ find name_cmp name (arc_value x)
    item-found = ap (find name_cmp name) (sym view ∙ cut-old) ∙ find-between name before (arc_value x) behind place.before place.behind

    -- with another child of this name, or none
    pub item-changed : (kid : Option NodeValue) → ((d : List ℕ) → find name_cmp d (arc_value y) ≡ cond (eq_by_cmp name_cmp d name) kid (find name_cmp d (arc_value x))) → AreKids kids (flat (lists_of (set items at y))) name kid
    item-changed kid changed = record {
      at = λ d. ap (find name_cmp d) cut-new ∙ changed-between name before (arc_value x) (arc_value y) behind kid place.before place.behind changed d ∙ ap (λ l. cond (eq_by_cmp name_cmp d name) kid (find name_cmp d l)) (sym cut-old ∙ view);
    }

pub none-found : {Z : Type 0} (name : List ℕ) (seen items : List (Arc (List (List ℕ × NodeValue)) Z)) (kids : List (List ℕ × NodeValue)) (at : ℕ) → flat (lists_of items) ≡ kids → IsPlace name (lists_of seen) at → seen ≡ items → length items ≤ at → find name_cmp name kids ≡ None
none-found name seen items kids at view place s past = sym (lookup-find name kids) ∙ sym (get-none name seen items items kids at view place s refl past)

pub place-of : {Z : Type 0} (name : List ℕ) (seen items : List (Arc (List (List ℕ × NodeValue)) Z)) (at : ℕ) → IsPlace name (lists_of seen) at → seen ≡ items → IsPlace name (lists_of items) at
place-of {Z = Z} name seen items at place s = subst (λ (xs : List (Arc (List (List ℕ × NodeValue)) Z)). IsPlace name (lists_of xs) at) s place

-- a list cut before an element that was written
pub taken_set : {A : Type 0} (xs : List A) (at : ℕ) (y : A) → drop (at + 1) (set xs at y) ≡ drop (at + 1) xs
taken_set xs at y = drop-set-lt (at + 1) xs at y (omega arith)

-- one part of a folder's is cut in two, or goes
module _ {Z : Type 0} (items : List (Arc (List (List ℕ × NodeValue)) Z)) (at : ℕ) (x y : Arc (List (List ℕ × NodeValue)) Z) (inside : at < length items) (is : x ≡ get_or items at x) (parts : are_parts (lists_of items) ≡ true) where
  abbrev front : List (List (List ℕ × NodeValue))
  front = take at (lists_of items)

  abbrev rest : List (List (List ℕ × NodeValue))
  rest = drop (at + 1) (lists_of items)

  abbrev old : List (List ℕ × NodeValue)
  old = (arc_value x)

  full_split : are_full (front ++ old ∷ rest) ≡ true
  full_split = split-full items at x y inside is parts

  front_full : are_full front ≡ true
  front_full = full-first front (old ∷ rest) full_split

  rest_full : are_full rest ≡ true
  rest_full = both_second (is_full old) _ (full-second front (old ∷ rest) full_split)

  within : at < length (lists_of items)
  within = let e = lists-length items in omega arith

  module _ (z : Arc (List (List ℕ × NodeValue)) Z) (halved : IsHalved (arc_value x) (arc_value y) (arc_value z)) where
    lists-cut : lists_of (insert (set items at y) (at + 1) z) ≡ front ++ (arc_value y) ∷ (arc_value z) ∷ rest
    lists-cut =
        lists-append (take (at + 1) (set items at y)) (z ∷ drop (at + 1) (set items at y))
        ∙ (λ i. (ap lists_of (take_more_set items at y inside) ∙ lists-append (take at items) (y ∷ []) ∙ ap (λ l. l ++ (arc_value y) ∷ []) (lists-take at items)) i ++ (arc_value z) ∷ (ap lists_of (taken_set items at y) ∙ lists-drop (at + 1) items) i)
        ∙ append_assoc front ((arc_value y) ∷ []) ((arc_value z) ∷ rest)

    pub cut-kids : flat (lists_of (insert (set items at y) (at + 1) z)) ≡ flat (lists_of items)
    cut-kids =
        ap flat lists-cut ∙ flat-one front (arc_value y) ((arc_value z) ∷ rest)
        ∙ ap (λ l. flat front ++ l) (sym (append_assoc (arc_value y) (arc_value z) (flat rest)) ∙ ap (λ l. l ++ flat rest) (sym halved.whole))
        ∙ sym (flat-cut (lists_of items) at old within (lists-get items at x old inside is))

    pub cut-parts : are_parts (lists_of (insert (set items at y) (at + 1) z)) ≡ true
    cut-parts =
        both_hold _ _ (ap are_full lists-cut ∙ full-append front _ front_full (both_hold _ _ halved.lower_full (both_hold _ _ halved.upper_full rest_full)))
        (ap (is_sorted name_cmp) cut-kids ∙ both_second (are_full (lists_of items)) _ parts)

  module _ (name : List ℕ) (left : Bool) (taken : IsTaken name (arc_value x) (arc_value y) left) where
    -- some are left
    pub taken-parts : left ≡ false → are_parts (lists_of (set items at y)) ≡ true
    taken-parts f =
        new-parts items at x y inside is parts (some (arc_value y) (λ e. true≢false (sym (taken.left.1 e) ∙ f)))
        (between (flat front) old (arc_value y) (flat rest) (old-sorted items at x y inside is parts) (sorted-from_keys (arc_value y) taken.rise)
        (ap (are_under (flat front)) taken.entries ∙ under-remove (flat front) old _ (under-first (flat front) old (flat rest) (sorted-under (flat front) (old ++ flat rest) (old-sorted items at x y inside is parts))))
        (ap (λ l. are_under l (flat rest)) taken.entries ∙ remove-under old (flat rest) _ (sorted-under old (flat rest) (sorted-second (flat front) (old ++ flat rest) (old-sorted items at x y inside is parts)))))
      where
        some : (l : List (List ℕ × NodeValue)) → (length l ≡ 0 → ⊥) → is_full l ≡ true
        some [] h = absurd (h refl)
        some (k ∷ ks) h = refl

    -- none are left
    lists-gone : lists_of (remove (set items at y) at) ≡ front ++ rest
    lists-gone =
        lists-append (take at (set items at y)) (drop (suc at) (set items at y))
        ∙ (λ i. (ap lists_of (take-set items at y) ∙ lists-take at items) i ++ (ap lists_of ((λ j. drop (sym (add-one at) j) (set items at y)) ∙ taken_set items at y) ∙ lists-drop (at + 1) items) i)

    none-left : left ≡ true → (arc_value y) ≡ []
    none-left t = none (arc_value y) (taken.left.0 t)
      where
        none : (l : List (List ℕ × NodeValue)) → length l ≡ 0 → l ≡ []
        none [] e = refl
        none (k ∷ ks) e = absurd (omega arith)

    flat-gone : left ≡ true → flat (lists_of (remove (set items at y) at)) ≡ flat (lists_of (set items at y))
    flat-gone t = ap flat lists-gone ∙ flat-append front rest ∙ (λ i. flat front ++ (sym (none-left t) i ++ flat rest)) ∙ sym (cut-new items at x y inside is)

    pub gone-parts : left ≡ true → are_parts (lists_of (remove (set items at y) at)) ≡ true
    gone-parts t =
        both_hold _ _ (ap are_full lists-gone ∙ full-append front rest front_full rest_full)
        (ap (is_sorted name_cmp) (ap flat lists-gone ∙ flat-append front rest) ∙ without (flat front) old (flat rest) (old-sorted items at x y inside is parts))
      where
        without : (xs ps ys : List (List ℕ × NodeValue)) → is_sorted name_cmp (xs ++ (ps ++ ys)) ≡ true → is_sorted name_cmp (xs ++ ys) ≡ true
        without xs ps ys s = between xs ps [] ys s refl (under-none xs) refl

    module _ (place : IsPlace name (lists_of items) at) (kids : List (List ℕ × NodeValue)) (view : flat (lists_of items) ≡ kids) where
      pub taken-kids : AreKids kids (flat (lists_of (set items at y))) name None
      taken-kids = item-changed items at x y inside is name place kids view None (found-changed old (arc_value y) name None taken.at)

      pub gone-kids : left ≡ true → AreKids kids (flat (lists_of (remove (set items at y) at))) name None
      gone-kids t = record { at = λ d. ap (find name_cmp d) (flat-gone t) ∙ taken-kids.at d }

  module _ (name : List ℕ) (kid : NodeValue) (place : IsPlace name (lists_of items) at) (done : IsPut name kid (arc_value x) (arc_value y)) where
    pub put-parts : are_parts (lists_of (set items at y)) ≡ true
    put-parts =
        new-parts items at x y inside is parts (ap is_full done.entries ∙ full-insert old name kid)
        (between (flat front) old (arc_value y) (flat rest) (old-sorted items at x y inside is parts) (sorted-from_keys (arc_value y) done.rise)
        (ap (are_under (flat front)) done.entries ∙ under-insert (flat front) old name kid place.before (under-first (flat front) old (flat rest) (sorted-under (flat front) (old ++ flat rest) (old-sorted items at x y inside is parts))))
        (ap (λ l. are_under l (flat rest)) done.entries ∙ insert-under old (flat rest) name kid place.behind (sorted-under old (flat rest) (sorted-second (flat front) (old ++ flat rest) (old-sorted items at x y inside is parts)))))

    pub put-kids : (kids : List (List ℕ × NodeValue)) → flat (lists_of items) ≡ kids → AreKids kids (flat (lists_of (set items at y))) name (Some kid)
    put-kids kids view = item-changed items at x y inside is name place kids view (Some kid) (found-changed old (arc_value y) name (Some kid) done.at)

-- a child put among these was put among the same
pub put-from : (name : List ℕ) (kid : NodeValue) (from from' new : List (List ℕ × NodeValue)) → from ≡ from' → IsPut name kid from new → IsPut name kid from' new
put-from name kid from from' new same done = subst (λ (o : List (List ℕ × NodeValue)). IsPut name kid o new) same done

-- what holds anyway holds after a refusal
pub anyway : {A E P : Type 0} (r : Result A E) → P → OnErr r P
anyway (Ok a) p = tt
anyway (Err e) p = p

-- what follows in both cases
pub either-way : {A E P Q R : Type 0} (r : Result A E) → OnOk r P → OnErr r Q → (P → R) → (Q → R) → R
either-way (Ok a) p q f g = f p
either-way (Err e) p q f g = g q

pub done-ok : {A E X : Type 0} (r : Result A E) (a : A) (x y z : X) → r ≡ Ok a → x ≡ (if is_ok r then y else z) → x ≡ y
done-ok r a x y z is e = e ∙ ap (λ (o : Result _ _). if is_ok o then y else z) is

-- a place is one of the parts, where there are any
pub place-inside : {Z : Type 0} (name : List ℕ) (seen items : List (Arc (List (List ℕ × NodeValue)) Z)) (at : ℕ) → IsPlace name (lists_of seen) at → seen ≡ items → 0 < length items → at < length items
place-inside name seen items at place s some = let e = lists-length seen in let l = ap length s in let w = place.within (omega arith) in omega arith

-- no part, no child
pub no-parts : {Z : Type 0} (items : List (Arc (List (List ℕ × NodeValue)) Z)) (kids : List (List ℕ × NodeValue)) → are_parts (lists_of items) ≡ true → flat (lists_of items) ≡ kids → (length items ≡ 0) ↔ (kids ≡ [])
no-parts {Z = Z} items kids parts view = (λ e. sym view ∙ empty items e, λ e. by items parts (view ∙ e))
  where
    empty : (xs : List (Arc (List (List ℕ × NodeValue)) Z)) → length xs ≡ 0 → flat (lists_of xs) ≡ []
    empty [] e = refl
    empty (x ∷ xs) e = absurd (omega arith)

    some : (p rest : List (List ℕ × NodeValue)) → is_full p ≡ true → p ++ rest ≡ [] → ⊥
    some [] rest f e = true≢false (sym f)
    some (k ∷ ks) rest f e = omega (arith, ap length e)

    by : (xs : List (Arc (List (List ℕ × NodeValue)) Z)) → are_parts (lists_of xs) ≡ true → flat (lists_of xs) ≡ [] → length xs ≡ 0
    by [] p e = refl
    by (x ∷ xs) p e = absurd (some (arc_value x) (flat (lists_of xs)) (both_first _ _ (both_first _ _ p)) e)

pub some-parts : (n : ℕ) (told : Bool) → told ≡ (n == 0) → told ≡ false → 0 < n
some-parts zero told is f = absurd (true≢false (sym is ∙ f))
some-parts (suc n) told is f = omega arith

-- what isn't there needn't go
pub no-change : (old new : List (List ℕ × NodeValue)) (name : List ℕ) → new ≡ old → find name_cmp name old ≡ None → AreKids old new name None
no-change old new name same none = record { at = λ d. ap (find name_cmp d) same ∙ by d (eq_by_cmp name_cmp d name) refl }
  where
    by : (d : List ℕ) (tie : Bool) → eq_by_cmp name_cmp d name ≡ tie → find name_cmp d old ≡ cond tie None (find name_cmp d old)
    by d true t = ap (λ c. find name_cmp c old) (name_same d name t) ∙ none
    by d false t = refl

-- what is said of a half that was taken, and where none was
pub some-halved : {Z : Type 0} (old new : List (List ℕ × NodeValue)) (taken : Option (Arc (List (List ℕ × NodeValue)) Z)) (upper : Arc (List (List ℕ × NodeValue)) Z) → taken ≡ Some upper → IfSome taken (λ u. IsHalved old new (arc_value u)) → IsHalved old new (arc_value upper)
some-halved {Z = Z} old new taken upper is h = subst (λ (o : Option (Arc (List (List ℕ × NodeValue)) Z)). IfSome o (λ u. IsHalved old new (arc_value u))) is h

pub none-halved : {Z : Type 0} (old new : List (List ℕ × NodeValue)) (taken : Option (Arc (List (List ℕ × NodeValue)) Z)) → taken ≡ None → IfNone taken (new ≡ old) → new ≡ old
none-halved {Z = Z} old new taken is h = subst (λ (o : Option (Arc (List (List ℕ × NodeValue)) Z)). IfNone o (new ≡ old)) is h
