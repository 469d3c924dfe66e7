-- What stands under names that rise, without those that come before a text.
use Rattle.std.specs.Prelude.{◌≡◌, ℕ, ◌+◌, ◌-◌, ◌<◌, ◌≤◌, Bool, true, false, cond, not, List, [], ◌∷◌, ◌++◌, length, take, drop, get_or}
use Rattle.std.proofs.Common.{sym, ap, refl, ◌∙◌, take-append-drop, arith}
use Rattle.std.proofs.lemmas.List.Elements.{filter-append}
use Rattle.std.proofs.lemmas.Grind.{common_steps}
use Rattle.std.specs.Arc.{arc_value}
use Rattle.std.specs.declared.sync.Arc.{Arc}
use Rattle.std.specs.Ordering.{is_lt, ordering_reverse}
use Rattle.std.specs.Cmp.Lexicographic.{nat_list_cmp_total}
use Rattle.std.specs.List.Sorted.{IsStrictlySortedBy}
use Rattle.std.specs.Map.{keys_of}
use Rattle.std.specs.FinMap.Entries.{is_sorted, below_all}
use Rattle.paths.specs.Order.{name_cmp}
use Rattle.paths.proofs.FrontLaws.{both_hold, both_first, both_second}
use Rattle.trees.specs.Branch.{from_name}
use Rattle.trees.specs.PrivateNode.{NodeValue, lists_of, flat, are_full, are_below, IsPlace, StandsAt, GoesAt, kid_maps, node_of}
use Rattle.trees.specs.PrivateWalk.{AreKidsFrom}
use Rattle.trees.proofs.PartLists.{less, below-from_under, sorted-under, sorted-second, flat-cut, full-second}
use Rattle.trees.proofs.PartSteps.{lists-length, lists-drop, lists-get}
use Rattle.trees.proofs.NameSteps.{equal}
use Rattle.trees.proofs.KidLists.{sorted-from_keys}
use Rattle.trees.proofs.RowLists.{kids-rows}

module _ {V : Type 0} (front : List ℕ) where
  first : (row : List ℕ × V) (rows : List (List ℕ × V)) (b : Bool) → is_lt (name_cmp row.0 front) ≡ b → from_name front (row ∷ rows) ≡ cond (not b) (row ∷ from_name front rows) (from_name front rows)
  first row rows b is = ap (λ b. cond (not b) (row ∷ from_name front rows) (from_name front rows)) is

  from-below : (rows : List (List ℕ × V)) → are_below front rows ≡ true → from_name front rows ≡ []
  from-below [] h = refl
  from-below (row ∷ rows) h = first row rows true (both_first _ _ h) ∙ from-below rows (both_second (is_lt (name_cmp row.0 front)) _ h)

  from-above : (rows : List (List ℕ × V)) → below_all name_cmp front rows ≡ true → from_name front rows ≡ rows
  from-above [] h = refl
  from-above (row ∷ rows) h =
      first row rows false (ap is_lt (nat_list_cmp_total.antisymm row.0 front ∙ ap ordering_reverse (less _ (both_first _ _ h))))
      ∙ ap (λ (l : List (List ℕ × V)). row ∷ l) (from-above rows (both_second (is_lt (name_cmp front row.0)) _ h))

  from-append : (xs ys : List (List ℕ × V)) → from_name front (xs ++ ys) ≡ from_name front xs ++ from_name front ys
  from-append xs ys = filter-append (λ (row : List ℕ × V). not (is_lt (name_cmp row.0 front))) xs ys

  from-apart : (xs ys : List (List ℕ × V)) → are_below front xs ≡ true → below_all name_cmp front ys ≡ true → from_name front (xs ++ ys) ≡ ys
  from-apart xs ys low high = from-append xs ys ∙ (λ i. from-below xs low i ++ from-above ys high i)

  from-between : (xs ps ys : List (List ℕ × V)) → are_below front xs ≡ true → below_all name_cmp front ys ≡ true → from_name front (xs ++ (ps ++ ys)) ≡ from_name front ps ++ ys
  from-between xs ps ys low high = from-append xs (ps ++ ys) ∙ (λ i. from-below xs low i ++ (from-append ps ys ∙ ap (λ (l : List (List ℕ × V)). from_name front ps ++ l) (from-above ys high)) i)

  -- ---- they still rise

  below-from : (c : List ℕ) (rows : List (List ℕ × V)) → below_all name_cmp c rows ≡ true → below_all name_cmp c (from_name front rows) ≡ true
  below-from c [] h = refl
  below-from c (row ∷ rows) h = by (is_lt (name_cmp row.0 front)) (below-from c rows (both_second (is_lt (name_cmp c row.0)) _ h))
    where
      by : (b : Bool) → below_all name_cmp c (from_name front rows) ≡ true → below_all name_cmp c (cond (not b) (row ∷ from_name front rows) (from_name front rows)) ≡ true
      by true rest = rest
      by false rest = both_hold _ _ (both_first _ _ h) rest

  pub from-rise : (rows : List (List ℕ × V)) → is_sorted name_cmp rows ≡ true → is_sorted name_cmp (from_name front rows) ≡ true
  from-rise [] h = refl
  from-rise (row ∷ rows) h = by (is_lt (name_cmp row.0 front)) (from-rise rows (both_second (below_all name_cmp row.0 rows) _ h))
    where
      by : (b : Bool) → is_sorted name_cmp (from_name front rows) ≡ true → is_sorted name_cmp (cond (not b) (row ∷ from_name front rows) (from_name front rows)) ≡ true
      by true rest = rest
      by false rest = both_hold _ _ (below-from row.0 rows (both_first _ _ h)) rest

-- ---- the names of one part

drop-front : {A : Type 0} (xs ys : List A) → drop (length xs) (xs ++ ys) ≡ ys
drop-front [] ys = refl
drop-front (x ∷ xs) ys = drop-front xs ys

pub goes-from : (name : List ℕ) (rows : List (List ℕ × NodeValue)) (at : ℕ) → GoesAt name rows at → drop at rows ≡ from_name name rows
goes-from name rows at g = sym (ap (from_name name) (sym (take-append-drop at rows)) ∙ from-apart name (take at rows) (drop at rows) g.before g.behind)

pub stands-from : (name : List ℕ) (rows : List (List ℕ × NodeValue)) (at : ℕ) → is_sorted name_cmp rows ≡ true → StandsAt name rows at → drop at rows ≡ from_name name rows
stands-from name rows at rise s =
    let sorted : is_sorted name_cmp (s.before ++ (name, s.kid) ∷ s.behind) ≡ true = ap (is_sorted name_cmp) (sym s.whole) ∙ rise in
    let low : are_below name s.before ≡ true = below-from_under name s.kid s.behind s.before (sorted-under s.before ((name, s.kid) ∷ s.behind) sorted) in
    let high : below_all name_cmp name s.behind ≡ true = both_first _ _ (sorted-second s.before ((name, s.kid) ∷ s.behind) sorted) in
    (λ i. drop (sym s.place i) (s.whole i)) ∙ drop-front s.before ((name, s.kid) ∷ s.behind)
    ∙ sym (ap (from_name name) s.whole ∙ from-append name s.before ((name, s.kid) ∷ s.behind)
    ∙ (λ i. from-below name s.before low i ++ (first name (name, s.kid) s.behind false (ap is_lt (equal name)) ∙ ap (λ (l : List (List ℕ × NodeValue)). (name, s.kid) ∷ l) (from-above name s.behind high)) i))

-- the same of names that are lent
whole-tail : {A : Type 0} (xs : List A) (n : ℕ) → take (length xs - n) (drop n xs) ≡ drop n xs
whole-tail xs n = grind (arith, common_steps)

pub from-lent : (name : List ℕ) (seen rows all : List (List ℕ × NodeValue)) (at : ℕ) → seen ≡ rows → rows ≡ all → drop at rows ≡ from_name name rows → take (length seen - at) (drop at seen) ≡ from_name name all
from-lent name seen rows all at same view is = whole-tail seen at ∙ ap (drop at) same ∙ is ∙ ap (from_name name) view

-- ---- the parts of a folder

module _ {Z : Type 0} (name : List ℕ) (items : List (Arc (List (List ℕ × NodeValue)) Z)) (at : ℕ) (place : IsPlace name (lists_of items) at) where
  -- those of the part in which the name stands or would stand, and all parts behind it
  part-from : (part : Arc (List (List ℕ × NodeValue)) Z) → at < length items → part ≡ get_or items at part
      → from_name name (arc_value part) ++ flat (lists_of (drop (at + 1) items)) ≡ from_name name (flat (lists_of items))
  part-from part less is =
      let inside : at < length (lists_of items) = (let e = lists-length items in omega arith) in
      ap (λ (l : List (List (List ℕ × NodeValue))). from_name name (arc_value part) ++ flat l) (lists-drop (at + 1) items)
      ∙ sym (ap (from_name name) (flat-cut (lists_of items) at (arc_value part) inside (lists-get items at part (arc_value part) less is))
      ∙ from-between name (flat (take at (lists_of items))) (arc_value part) (flat (drop (at + 1) (lists_of items))) place.before place.behind)

  -- where there is no such part, there is none at all
  none-from : length items ≤ at → [] ≡ from_name name (flat (lists_of items))
  none-from past = by items place past
    where
      by : (xs : List (Arc (List (List ℕ × NodeValue)) Z)) → IsPlace name (lists_of xs) at → length xs ≤ at → [] ≡ from_name name (flat (lists_of xs))
      by [] here far = refl
      by (x ∷ xs) here far = absurd (let w = here.within (omega arith) in let e = lists-length (x ∷ xs) in omega arith)

-- the same of parts that are lent
module _ {Z : Type 0} (name : List ℕ) (seen items : List (Arc (List (List ℕ × NodeValue)) Z)) (kids found : List (List ℕ × NodeValue)) (at : ℕ) (same : seen ≡ items) (view : flat (lists_of items) ≡ kids) where
  pub folder-from : (part : Arc (List (List ℕ × NodeValue)) Z) (names begun : List (List ℕ × NodeValue)) → IsPlace name (lists_of seen) at → at < length seen → part ≡ get_or seen at part → names ≡ arc_value part → begun ≡ from_name name names
      → found ≡ begun ++ flat (lists_of (take (length seen - (at + 1)) (drop (at + 1) seen))) → found ≡ from_name name kids
  folder-from part names begun place less is lent first all =
      all ∙ (λ i. (first ∙ ap (from_name name) lent) i ++ flat (lists_of (whole-tail seen (at + 1) i))) ∙ part-from name seen at place part less is
      ∙ ap (from_name name) (ap (λ (parts : List (Arc (List (List ℕ × NodeValue)) Z)). flat (lists_of parts)) same ∙ view)

  pub folder-none : IsPlace name (lists_of seen) at → length seen ≤ at → found ≡ [] → found ≡ from_name name kids
  folder-none place past none = none ∙ none-from name seen at place past ∙ ap (from_name name) (ap (λ (parts : List (Arc (List (List ℕ × NodeValue)) Z)). flat (lists_of parts)) same ∙ view)

-- none of the parts behind one is empty
pub full-behind : {Z : Type 0} (seen items : List (Arc (List (List ℕ × NodeValue)) Z)) (at : ℕ) → seen ≡ items → are_full (lists_of items) ≡ true → are_full (lists_of (take (length seen - at) (drop at seen))) ≡ true
full-behind {Z = Z} seen items at same full =
    ap (λ (parts : List (Arc (List (List ℕ × NodeValue)) Z)). are_full (lists_of parts)) (whole-tail seen at ∙ ap (drop at) same) ∙ ap are_full (lists-drop at items)
    ∙ full-second (take at (lists_of items)) (drop at (lists_of items)) (ap are_full (take-append-drop at (lists_of items)) ∙ full)

-- ---- the children of a node

pub kids-from : (front : List ℕ) (kids found : List (List ℕ × NodeValue)) → IsStrictlySortedBy name_cmp (keys_of kids) → found ≡ from_name front kids → is_sorted name_cmp found ≡ true
kids-from front kids found ordered is = ap (is_sorted name_cmp) is ∙ from-rise front kids (sorted-from_keys kids ordered)

-- ---- the children of a branch

pub kid_maps-from : (front : List ℕ) (kids : List (List ℕ × NodeValue)) → kid_maps (from_name front kids) ≡ from_name front (kid_maps kids)
kid_maps-from front [] = refl
kid_maps-from front (kid ∷ kids) = by (is_lt (name_cmp kid.0 front)) (kid_maps-from front kids)
  where
    by : (b : Bool) → kid_maps (from_name front kids) ≡ from_name front (kid_maps kids)
        → kid_maps (cond (not b) (kid ∷ from_name front kids) (from_name front kids)) ≡ cond (not b) (kid_maps (kid ∷ []) ++ from_name front (kid_maps kids)) (from_name front (kid_maps kids))
    by true more = more
    by false more = ap (λ maps. kid_maps (kid ∷ []) ++ maps) more

-- the children of a node from a text on, as they are lent
pub node-from : (value : NodeValue) (kids its : List (List ℕ × NodeValue)) (front : List ℕ) → node_of value.top kids ≡ value → IsStrictlySortedBy name_cmp (keys_of kids) → its ≡ from_name front kids → AreKidsFrom value front its
node-from value kids its front is ordered from =
    record { all = kids; whole = kids-rows value kids kids is refl ordered; left = from; rise = kids-from front kids its ordered from }
