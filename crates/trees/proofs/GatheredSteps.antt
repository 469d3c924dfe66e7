-- Children that are gathered from the last to the first.
use Rattle.std.specs.Prelude.{◌≡◌, ◌<◌, ◌≤◌, ◌+◌, ◌-◌, ℕ, true, List, [], ◌∷◌, ◌++◌, length, reverse, take, get_or}
use Rattle.std.proofs.Common.{sym, ap, refl, ◌∙◌, subst, append_assoc, append-nil, arith}
use Rattle.std.proofs.lemmas.List.{reverse-append, length-reverse, take_all, take_more}
use Rattle.std.specs.Arc.{arc_value}
use Rattle.std.specs.declared.sync.Arc.{Arc}
use Rattle.std.specs.Ordering.{is_lt}
use Rattle.std.specs.declared.cmp.Ordering.TheVariants.{Less}
use Rattle.std.specs.Cmp.Lexicographic.{nat_list_cmp_total}
use Rattle.std.specs.FinMap.Entries.{is_sorted, below_all}
use Rattle.plain.specs.Limits.{most_components}
use Rattle.paths.specs.Order.{name_cmp}
use Rattle.paths.proofs.FrontLaws.{both_hold, both_first, both_second}
use Rattle.trees.specs.PrivateNode.{NodeValue, lists_of, flat, is_full, are_full, are_parts, joined, IsDepth}
use Rattle.trees.specs.PrivateGrowing.{gathered, AreGathered, AreMoved}
use Rattle.trees.proofs.PartLists.{less, full-append, sorted-first}
use Rattle.trees.proofs.PartSteps.{lists-append}
use Rattle.trees.proofs.DepthSteps.{depth-step, depth-more, depth-none}

abbrev Kids : Type 0
Kids = List (List ℕ × NodeValue)

pub reverse-cons : {A : Type 0} (x : A) (xs : List A) → reverse (x ∷ xs) ≡ reverse xs ++ x ∷ []
reverse-cons x xs = reverse-append (x ∷ []) xs

pub reverse-push : {A : Type 0} (xs : List A) (x : A) → reverse (xs ++ x ∷ []) ≡ x ∷ reverse xs
reverse-push xs x = reverse-append xs (x ∷ [])

-- one of the rows that are moved
pub moved-one : (rising rising' rows rows' all : Kids) (x y : List ℕ × NodeValue) → rising ++ reverse rows ≡ all → rows ≡ rows' ++ x ∷ [] → y ≡ x → rising' ≡ rising ++ y ∷ [] → rising' ++ reverse rows' ≡ all
moved-one rising rising' rows rows' all x y h is same pushed =
    ap (λ l. l ++ reverse rows') pushed ∙ append_assoc rising (y ∷ []) (reverse rows') ∙ ap (λ z. rising ++ z ∷ reverse rows') same ∙ ap (λ l. rising ++ l) (sym (ap reverse is ∙ reverse-push rows' x)) ∙ h

pub moved-all : (rising rows all : Kids) → rising ++ reverse rows ≡ all → rows ≡ [] → rising ≡ all
moved-all rising rows all h none = sym (append-nil rising) ∙ ap (λ l. rising ++ reverse l) (sym none) ∙ h

-- ---- a part more

full-reverse : (parts : List Kids) → are_full parts ≡ true → are_full (reverse parts) ≡ true
full-reverse [] f = refl
full-reverse (p ∷ parts) f =
    ap are_full (reverse-cons p parts) ∙ full-append (reverse parts) (p ∷ []) (full-reverse parts (both_second (is_full p) _ f)) (both_hold _ _ (both_first _ _ f) refl)

full-some : (rows : Kids) → 0 < length rows → is_full rows ≡ true
full-some [] some = absurd (omega arith)
full-some (row ∷ rows) some = refl

pub moved-none : (rows new_rows : Kids) (parts new_parts : List Kids) → are_full parts ≡ true → new_rows ≡ rows → new_parts ≡ parts → AreMoved rows parts new_rows new_parts
moved-none rows new_rows parts new_parts f r p = record { full = ap are_full p ∙ f; same = λ i. gathered (r i) (p i) }

pub moved-part : (rows new_rows part : Kids) (parts new_parts : List Kids) → are_full parts ≡ true → 0 < length rows → part ≡ reverse rows → new_rows ≡ [] → new_parts ≡ parts ++ part ∷ [] → AreMoved rows parts new_rows new_parts
moved-part rows new_rows part parts new_parts f some is none pushed = record {
  full = ap are_full pushed ∙ full-append parts (part ∷ []) f (both_hold _ _ (ap is_full is ∙ full-some (reverse rows) (let l = length-reverse rows in omega arith)) refl);
  same = (λ i. gathered (none i) (pushed i)) ∙ ap flat (reverse-push parts part) ∙ ap (λ l. l ++ flat (reverse parts)) is;
}

module _ {Z : Type 0} where
  lists-reverse : (xs : List (Arc Kids Z)) → lists_of (reverse xs) ≡ reverse (lists_of xs)
  lists-reverse [] = refl
  lists-reverse (x ∷ xs) = ap lists_of (reverse-cons x xs) ∙ lists-append (reverse xs) (x ∷ []) ∙ ap (λ l. l ++ arc_value x ∷ []) (lists-reverse xs) ∙ sym (reverse-cons (arc_value x) (lists_of xs))

  pub lists-push : (xs ys : List (Arc Kids Z)) (x : Arc Kids Z) → ys ≡ xs ++ x ∷ [] → lists_of ys ≡ lists_of xs ++ arc_value x ∷ []
  lists-push xs ys x is = ap lists_of is ∙ lists-append xs (x ∷ [])

  -- all children, once no row is left
  pub all-parts : (rows kids : Kids) (parts turned : List (Arc Kids Z)) → gathered rows (lists_of parts) ≡ kids → rows ≡ [] → turned ≡ reverse parts → flat (lists_of turned) ≡ kids
  all-parts rows kids parts turned same none is = ap flat (ap lists_of is ∙ lists-reverse parts) ∙ (λ i. gathered (sym none i) (lists_of parts)) ∙ same

  pub all-are_parts : (rows kids : Kids) (parts turned : List (Arc Kids Z)) → gathered rows (lists_of parts) ≡ kids → rows ≡ [] → turned ≡ reverse parts → are_full (lists_of parts) ≡ true → is_sorted name_cmp kids ≡ true → are_parts (lists_of turned) ≡ true
  all-are_parts rows kids parts turned same none is f rise =
      both_hold _ _ (ap are_full (ap lists_of is ∙ lists-reverse parts) ∙ full-reverse (lists_of parts) f) (ap (is_sorted name_cmp) (all-parts rows kids parts turned same none is) ∙ rise)

-- ---- a child more

pub gathered-push : (rows rows' : Kids) (parts : List Kids) (kids : Kids) (x : List ℕ × NodeValue) → rows' ≡ rows ++ x ∷ [] → gathered rows parts ≡ kids → gathered rows' parts ≡ x ∷ kids
gathered-push rows rows' parts kids x is same = ap (λ l. l ++ flat (reverse parts)) (ap reverse is ∙ reverse-push rows x) ∙ ap (λ l. x ∷ l) same

pub gathered-more : (rows new_rows rows' kids : Kids) (parts new_parts : List Kids) (depth deepest lift kid_depth : ℕ) (name : List ℕ) (x : List ℕ × NodeValue) (kid : NodeValue) → AreGathered rows parts depth → gathered rows parts ≡ kids → AreMoved rows parts new_rows new_parts → rows' ≡ new_rows ++ x ∷ [] → x ≡ (name, kid) → below_all name_cmp name kids ≡ true → depth ≤ deepest → lift ≤ deepest → (lift ≤ most_components → kid_depth + 1 ≤ lift) → IsDepth kid_depth kid.below
    → AreGathered rows' new_parts deepest
gathered-more rows new_rows rows' kids parts new_parts depth deepest lift kid_depth name x kid h view moved pushed is before less less_lift lifts deep = record {
  full = moved.full;
  rise = ap (is_sorted name_cmp) whole ∙ both_hold _ _ before (sym (ap (is_sorted name_cmp) view) ∙ h.rise);
  deep = depth-step deepest kid_depth (gathered rows' new_parts) kids name kid whole (λ few. let l : kid_depth + 1 ≤ lift = lifts (omega arith) in omega arith) deep (subst (λ (l : Kids). IsDepth deepest (joined l)) view (depth-more depth deepest (joined (gathered rows parts)) less h.deep));
}
  where
    whole : gathered rows' new_parts ≡ (name, kid) ∷ kids
    whole = gathered-push new_rows rows' new_parts kids x pushed (moved.same ∙ view) ∙ ap (λ y. y ∷ kids) is

pub gathered-view : (rows new_rows rows' kids : Kids) (parts new_parts : List Kids) (name : List ℕ) (x : List ℕ × NodeValue) (kid : NodeValue) → gathered rows parts ≡ kids → AreMoved rows parts new_rows new_parts → rows' ≡ new_rows ++ x ∷ [] → x ≡ (name, kid) → gathered rows' new_parts ≡ (name, kid) ∷ kids
gathered-view rows new_rows rows' kids parts new_parts name x kid view moved pushed is = gathered-push new_rows rows' new_parts kids x pushed (moved.same ∙ view) ∙ ap (λ y. y ∷ kids) is

-- the rows alone rise
pub rows-rise : (rows : Kids) (parts : List Kids) (depth : ℕ) → AreGathered rows parts depth → is_sorted name_cmp (reverse rows) ≡ true
rows-rise rows parts depth h = sorted-first (reverse rows) (flat (reverse parts)) h.rise

-- what is below the first is below all
below-more : (name c : List ℕ) (kids : Kids) → name_cmp name c ≡ Less → below_all name_cmp c kids ≡ true → below_all name_cmp name kids ≡ true
below-more name c [] l h = refl
below-more name c (kid ∷ kids) l h =
    both_hold _ _ (ap is_lt (nat_list_cmp_total.trans name c kid.0 l (less _ (both_first _ _ h)))) (below-more name c kids l (both_second (is_lt (name_cmp c kid.0)) _ h))

pub before-first : (rows front kids : Kids) (parts : List Kids) (name : List ℕ) (x : List ℕ × NodeValue) → gathered rows parts ≡ kids → rows ≡ front ++ x ∷ [] → is_sorted name_cmp (gathered rows parts) ≡ true → is_lt (name_cmp name x.0) ≡ true → below_all name_cmp name kids ≡ true
before-first rows front kids parts name x view is rise l =
    let whole : gathered rows parts ≡ x ∷ (reverse front ++ flat (reverse parts)) = ap (λ r. r ++ flat (reverse parts)) (ap reverse is ∙ reverse-push front x) in
    ap (below_all name_cmp name) (sym view ∙ whole)
    ∙ both_hold _ _ l (below-more name x.0 (reverse front ++ flat (reverse parts)) (less _ l) (both_first _ _ (sym (ap (is_sorted name_cmp) whole) ∙ rise)))

pub before-none : (rows kids : Kids) (parts : List Kids) (name : List ℕ) → gathered rows parts ≡ kids → rows ≡ [] → parts ≡ [] → below_all name_cmp name kids ≡ true
before-none rows kids parts name view none no_parts = ap (below_all name_cmp name) (sym view ∙ (λ i. gathered (none i) (no_parts i)))

pub last-split : (rows seen : Kids) (x : List ℕ × NodeValue) → seen ≡ rows → 1 ≤ length seen → x ≡ get_or seen (length seen - 1) x → rows ≡ take (length seen - 1) seen ++ x ∷ []
last-split rows seen x same some is =
    sym same ∙ sym (take_all (length seen - 1 + 1) seen (omega arith)) ∙ take_more seen (length seen - 1) x (omega arith) ∙ ap (λ y. take (length seen - 1) seen ++ y ∷ []) (sym is)

pub gathered-none : (rows : Kids) (parts : List Kids) → rows ≡ [] → parts ≡ [] → AreGathered rows parts 0
gathered-none rows parts none no_parts = record {
  full = ap are_full no_parts;
  rise = rises;
  deep = depth-none 0 (gathered rows parts) empty;
}
  where
    empty : gathered rows parts ≡ []
    empty = λ i. gathered (none i) (no_parts i)

    rises : is_sorted name_cmp (gathered rows parts) ≡ true
    rises = ap (is_sorted name_cmp) empty

pub rise-of : (kids rows : Kids) (parts : List Kids) (depth : ℕ) → gathered rows parts ≡ kids → AreGathered rows parts depth → is_sorted name_cmp kids ≡ true
rise-of kids rows parts depth view h = ap (is_sorted name_cmp) (sym view) ∙ h.rise

pub deep-of : (kids rows : Kids) (parts : List Kids) (depth : ℕ) (all : Kids) → gathered rows parts ≡ kids → AreGathered rows parts depth → all ≡ kids → IsDepth depth (joined all)
deep-of kids rows parts depth all view h same = subst (λ (l : Kids). IsDepth depth (joined l)) (view ∙ sym same) h.deep
