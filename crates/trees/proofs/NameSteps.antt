-- What the code of names does, step by step.
use Rattle.std.specs.Prelude.{◌≡◌, ℕ, ◌+◌, ◌<◌, ◌≤◌, Bool, true, false, ◌==◌, cond, IsTrue, ◌↔◌, Option, Some, None, List, [], ◌∷◌, ◌++◌, length, take, drop, set, get_or, is_some, ◌⊎◌}
use Rattle.std.proofs.Common.{sym, ap, refl, ◌∙◌, subst, true≢false, append_assoc, take-append-drop, add-one, inl, inr, arith}
use Rattle.std.proofs.lemmas.Bool.{eqb-true}
use Rattle.std.proofs.lemmas.List.{drop_more, take_more, drop_all, length-take-le, length-append, set_split}
use Rattle.std.proofs.Math.Seq.{get_or-append_seam, take-append_seam, drop-append-add}
use Rattle.std.specs.List.{insert, remove}
use Rattle.std.specs.Option.{option_or}
use Rattle.std.specs.Ordering.{eq_by_cmp, is_lt, is_eq, ordering_reverse, match_ordering}
use Rattle.std.specs.declared.cmp.Ordering.{Ordering}
use Rattle.std.specs.declared.cmp.Ordering.TheVariants.{Less, Equal, Greater}
use Rattle.std.specs.Cmp.{eq_by_cmp_equiv}
use Rattle.std.specs.Cmp.Lexicographic.{nat_list_cmp_total}
use Rattle.std.specs.Map.{lookup, remove_entry}
use Rattle.std.specs.BTreeMap.{insert_entry, is_at}
use Rattle.std.specs.FinMap.{find}
use Rattle.std.specs.FinMap.Entries.{is_sorted, below_all}
use Rattle.paths.specs.Order.{name_cmp}
use Rattle.paths.proofs.FrontLaws.{name_same, name_itself, both_hold, both_first, both_second}
use Rattle.trees.specs.PrivateNode.{NodeValue, are_below, StandsAt, GoesAt, IsGiven, IsPut, IsTaken, IsCutAt, IsHalved, is_full}
use Rattle.trees.proofs.NodeLaws.{lookup-find}
use Rattle.trees.proofs.PartLists.{less, less-below, below-until, below-from_under, sorted-under, sorted-first, sorted-second, same-sorted, between, are_under, under-none, find-append, not-below, not-above, changed-between, names-append}
use Rattle.trees.proofs.KidLists.{keys-from_sorted, found-among}

abbrev Row : Type 0
Row = List ℕ × NodeValue

abbrev Rows : Type 0
Rows = List Row

above : (name k : List ℕ) → is_lt (name_cmp k name) ≡ true → name_cmp name k ≡ Greater
above name k h = nat_list_cmp_total.antisymm name k ∙ ap ordering_reverse (less _ h)

pub equal : (name : List ℕ) → name_cmp name name ≡ Equal
equal name = by (name_cmp name name) (name_itself name)
  where
    by : (o : Ordering) → is_eq o ≡ true → o ≡ Equal
    by Less e = absurd (true≢false (sym e))
    by Equal e = refl
    by Greater e = absurd (true≢false (sym e))

-- ---- the search for a name

split-row : (rows : Rows) (at : ℕ) (x : Row) → at < length rows → x ≡ get_or rows at x → rows ≡ take at rows ++ x ∷ drop (at + 1) rows
split-row rows at x less is = sym (take-append-drop at rows) ∙ ap (λ (r : Rows). take at rows ++ r) (drop_more rows at x less ∙ ap (λ (q : Row). q ∷ drop (at + 1) rows) (sym is))

below-push : (name : List ℕ) (xs : Rows) (x : Row) → are_below name xs ≡ true → is_lt (name_cmp x.0 name) ≡ true → are_below name (xs ++ x ∷ []) ≡ true
below-push name [] x h l = both_hold _ _ l refl
below-push name (y ∷ ys) x h l = both_hold _ _ (both_first _ _ h) (below-push name ys x (both_second (is_lt (name_cmp y.0 name)) _ h) l)

-- how far the search is
pub record IsSought (name : List ℕ) (rows : Rows) (low high : ℕ) : Type 0 where
  pub order : low ≤ high
  pub within : high ≤ length rows
  pub before : are_below name (take low rows) ≡ true
  pub behind : below_all name_cmp name (drop high rows) ≡ true

pub sought-start : (name : List ℕ) (rows : Rows) → IsSought name rows 0 (length rows)
sought-start name rows = record { order = omega arith; within = omega arith; before = refl; behind = ap (below_all name_cmp name) (drop_all (length rows) rows (omega arith)) }

module _ (name : List ℕ) (rows : Rows) (rise : is_sorted name_cmp rows ≡ true) (low high mid : ℕ) (so : IsSought name rows low high) (more : low ≤ mid) (under : mid < high) (x : Row) (is : x ≡ get_or rows mid x) where
  inside : mid < length rows
  inside = let w = so.within in omega arith

  abbrev rest : Rows
  rest = drop (mid + 1) rows

  whole : is_sorted name_cmp (take mid rows ++ x ∷ rest) ≡ true
  whole = ap (is_sorted name_cmp) (sym (split-row rows mid x inside is)) ∙ rise

  pub sought-down : name_cmp name x.0 ≡ Less → IsSought name rows low mid
  sought-down l = record {
    order = more;
    within = let h = inside in omega arith;
    before = so.before;
    behind = ap (below_all name_cmp name) (drop_more rows mid x inside ∙ ap (λ (q : Row). q ∷ rest) (sym is)) ∙ both_hold _ _ (ap is_lt l) (less-below name x.0 rest l (both_first _ _ (sorted-second (take mid rows) (x ∷ rest) whole)));
  }

  pub sought-up : name_cmp name x.0 ≡ Greater → IsSought name rows (mid + 1) high
  sought-up g = record {
    order = omega arith;
    within = so.within;
    before =
        ap (are_below name) (take_more rows mid x inside ∙ ap (λ (q : Row). take mid rows ++ q ∷ []) (sym is))
        ∙ below-push name (take mid rows) x (below-until name x.0 x.1 rest (take mid rows) (ap is_lt g) (sorted-under (take mid rows) (x ∷ rest) whole)) (ap is_lt (nat_list_cmp_total.antisymm x.0 name ∙ ap ordering_reverse g));
    behind = so.behind;
  }

  pub sought-here : name_cmp name x.0 ≡ Equal → StandsAt name rows mid
  sought-here e = record {
    before = take mid rows;
    kid = x.1;
    behind = rest;
    whole = split-row rows mid x inside is ∙ (λ i. take mid rows ++ (sym (name_same name x.0 (ap is_eq e)) i, x.1) ∷ rest);
    place = length-take-le mid rows (let h = inside in omega arith);
  }

pub sought-done : (name : List ℕ) (rows : Rows) (low high : ℕ) → IsSought name rows low high → high ≤ low → GoesAt name rows low
sought-done name rows low high so near =
    let same : high ≡ low = (let o = so.order in omega arith) in
    record { within = let w = so.within in omega arith; before = so.before; behind = subst (λ (n : ℕ). below_all name_cmp name (drop n rows) ≡ true) same so.behind }

-- ---- what is found

stands-row : (name : List ℕ) (rows : Rows) (at : ℕ) (x : Row) (s : StandsAt name rows at) → x ≡ get_or rows at x → x ≡ (name, s.kid)
stands-row name rows at x s is = is ∙ (λ i. get_or (s.whole i) (sym s.place i) x) ∙ get_or-append_seam s.before (name, s.kid) s.behind x

pub stands-inside : (name : List ℕ) (rows : Rows) (at : ℕ) → StandsAt name rows at → at < length rows
stands-inside name rows at s = inside s.before (ap length s.whole) s.place
  where
    inside : (xs : Rows) → length rows ≡ length (xs ++ (name, s.kid) ∷ s.behind) → length xs ≡ at → at < length rows
    inside xs e p = let h = longer xs in omega arith
      where
        longer : (ys : Rows) → length ys < length (ys ++ (name, s.kid) ∷ s.behind)
        longer [] = omega arith
        longer (y ∷ ys) = let r = longer ys in omega arith

pub stands-found : (name : List ℕ) (rows : Rows) (at : ℕ) (x : Row) → is_sorted name_cmp rows ≡ true → StandsAt name rows at → x ≡ get_or rows at x → Some x.1 ≡ lookup (is_at (name_cmp name)) rows
stands-found name rows at x rise s is =
    ap (λ (r : Row). Some r.1) (stands-row name rows at x s is)
    ∙ sym (found-among rows s.before s.behind ((name, s.kid) ∷ s.behind) name s.kid (keys-from_sorted rows rise) (sym s.whole) refl)

goes-find : (name : List ℕ) (rows : Rows) (at : ℕ) → GoesAt name rows at → find name_cmp name rows ≡ None
goes-find name rows at g =
    ap (find name_cmp name) (sym (take-append-drop at rows)) ∙ find-append name (take at rows) (drop at rows)
    ∙ (λ i. option_or (not-below name (take at rows) g.before i) (find name_cmp name (drop at rows))) ∙ not-above name (drop at rows) g.behind

pub goes-none : (name : List ℕ) (rows : Rows) (at : ℕ) → GoesAt name rows at → None ≡ lookup (is_at (name_cmp name)) rows
goes-none name rows at g = sym (lookup-find name rows ∙ goes-find name rows at g)

-- ---- a node that is put

insert-there : (name : List ℕ) (v kid : NodeValue) (xs ys : Rows) → are_below name xs ≡ true → insert_entry name_cmp (xs ++ (name, v) ∷ ys) name kid ≡ xs ++ (name, kid) ∷ ys
insert-there name v kid [] ys h = ap (λ o. match_ordering o ((name, kid) ∷ (name, v) ∷ ys) ((name, kid) ∷ ys) ((name, v) ∷ insert_entry name_cmp ys name kid)) (equal name)
insert-there name v kid (x ∷ xs) ys h =
    ap (λ o. match_ordering o ((name, kid) ∷ x ∷ (xs ++ (name, v) ∷ ys)) ((x.0, kid) ∷ (xs ++ (name, v) ∷ ys)) (x ∷ insert_entry name_cmp (xs ++ (name, v) ∷ ys) name kid)) (above name x.0 (both_first _ _ h))
    ∙ ap (λ (l : Rows). x ∷ l) (insert-there name v kid xs ys (both_second (is_lt (name_cmp x.0 name)) _ h))

insert-between : (name : List ℕ) (kid : NodeValue) (xs ys : Rows) → are_below name xs ≡ true → below_all name_cmp name ys ≡ true → insert_entry name_cmp (xs ++ ys) name kid ≡ xs ++ (name, kid) ∷ ys
insert-between name kid [] [] h g = refl
insert-between name kid [] (y ∷ ys) h g = ap (λ o. match_ordering o ((name, kid) ∷ y ∷ ys) ((y.0, kid) ∷ ys) (y ∷ insert_entry name_cmp ys name kid)) (less _ (both_first _ _ g))
insert-between name kid (x ∷ xs) ys h g =
    ap (λ o. match_ordering o ((name, kid) ∷ x ∷ (xs ++ ys)) ((x.0, kid) ∷ (xs ++ ys)) (x ∷ insert_entry name_cmp (xs ++ ys) name kid)) (above name x.0 (both_first _ _ h))
    ∙ ap (λ (l : Rows). x ∷ l) (insert-between name kid xs ys (both_second (is_lt (name_cmp x.0 name)) _ h) g)

set-seam : (xs : Rows) (y z : Row) (ys : Rows) → set (xs ++ y ∷ ys) (length xs) z ≡ xs ++ z ∷ ys
set-seam [] y z ys = refl
set-seam (x ∷ xs) y z ys = ap (λ (l : Rows). x ∷ l) (set-seam xs y z ys)

-- names between which one name has another node
module _ (name : List ℕ) (v : NodeValue) (xs ys : Rows) (rise : is_sorted name_cmp (xs ++ (name, v) ∷ ys) ≡ true) where
  low : are_below name xs ≡ true
  low = below-from_under name v ys xs (sorted-under xs ((name, v) ∷ ys) rise)

  high : below_all name_cmp name ys ≡ true
  high = both_first _ _ (sorted-second xs ((name, v) ∷ ys) rise)

  changed-to : (new : Rows) (kid : Option NodeValue) → ((d : List ℕ) → find name_cmp d new ≡ cond (eq_by_cmp name_cmp d name) kid (find name_cmp d ((name, v) ∷ [])))
      → (q : List ℕ) → lookup (is_at (name_cmp q)) (xs ++ (new ++ ys)) ≡ cond (is_at (name_cmp name) q) kid (lookup (is_at (name_cmp q)) (xs ++ (name, v) ∷ ys))
  changed-to new kid here q =
      lookup-find q (xs ++ (new ++ ys)) ∙ changed-between name xs ((name, v) ∷ []) new ys kid low high here q
      ∙ (λ i. cond ((eq_by_cmp_equiv nat_list_cmp_total).symm q name i) kid (sym (lookup-find q (xs ++ (name, v) ∷ ys)) i))

  other : (kid : Option NodeValue) (b : Bool) → cond b kid None ≡ cond b kid (cond b (Some v) None)
  other kid true = refl
  other kid false = refl

  gone : (b : Bool) → None ≡ cond b None (cond b (Some v) None)
  gone true = refl
  gone false = refl

  put-there : (kid : NodeValue) → IsPut name kid (xs ++ (name, v) ∷ ys) (xs ++ (name, kid) ∷ ys)
  put-there kid = record {
    entries = sym (insert-there name v kid xs ys low);
    rise = keys-from_sorted (xs ++ (name, kid) ∷ ys) (same-sorted xs ((name, v) ∷ []) ((name, kid) ∷ []) ys refl rise);
    at = changed-to ((name, kid) ∷ []) (Some kid) (λ d. other (Some kid) (eq_by_cmp name_cmp d name));
  }

  given-there : (kid : NodeValue) → IsGiven name kid (xs ++ (name, v) ∷ ys) (xs ++ (name, kid) ∷ ys)
  given-there kid = record {
    names = names-append xs ((name, kid) ∷ ys) ∙ sym (names-append xs ((name, v) ∷ ys));
    at = λ _. changed-to ((name, kid) ∷ []) (Some kid) (λ d. other (Some kid) (eq_by_cmp name_cmp d name));
  }

  remove-there : (zs : Rows) → are_below name zs ≡ true → zs ++ ys ≡ remove_entry (is_at (name_cmp name)) (zs ++ (name, v) ∷ ys)
  remove-there [] h = sym (ap (λ b. cond b ys ((name, v) ∷ remove_entry (is_at (name_cmp name)) ys)) (name_itself name))
  remove-there (z ∷ zs) h =
      ap (λ (l : Rows). z ∷ l) (remove-there zs (both_second (is_lt (name_cmp z.0 name)) _ h))
      ∙ sym (ap (λ o. cond (is_eq o) (zs ++ (name, v) ∷ ys) (z ∷ remove_entry (is_at (name_cmp name)) (zs ++ (name, v) ∷ ys))) (above name z.0 (both_first _ _ h)))

  taken-there : (left : Bool) → IsTrue left ↔ (length (xs ++ ys) ≡ 0) → IsTaken name (xs ++ (name, v) ∷ ys) (xs ++ ys) left
  taken-there left says = record {
    entries = remove-there xs low;
    rise = keys-from_sorted (xs ++ ys) (between xs ((name, v) ∷ []) [] ys rise refl (under-none xs) refl);
    at = changed-to [] None (λ d. gone (eq_by_cmp name_cmp d name));
    left = says;
  }

set-there : (name : List ℕ) (rows : Rows) (at : ℕ) (x y : Row) (s : StandsAt name rows at) → x ≡ get_or rows at x → y.0 ≡ x.0 → set rows at y ≡ s.before ++ (name, y.1) ∷ s.behind
set-there name rows at x y s is same =
    (λ i. set (s.whole i) (sym s.place i) y) ∙ set-seam s.before (name, s.kid) y s.behind
    ∙ (λ i. s.before ++ ((same ∙ ap (λ (r : Row). r.0) (stands-row name rows at x s is)) i, y.1) ∷ s.behind)

-- another node under a name that stands
pub put-set : (name : List ℕ) (kid : NodeValue) (rows new : Rows) (at : ℕ) (x y : Row) → is_sorted name_cmp rows ≡ true → StandsAt name rows at → x ≡ get_or rows at x → y.0 ≡ x.0 → y.1 ≡ kid → new ≡ set rows at y → IsPut name kid rows new
put-set name kid rows new at x y rise s is same_name same_kid done =
    subst (λ (o : Rows). IsPut name kid o new) (sym s.whole)
    (subst (λ (n : Rows). IsPut name kid (s.before ++ (name, s.kid) ∷ s.behind) n) (sym (done ∙ set-there name rows at x y s is same_name ∙ (λ i. s.before ++ (name, same_kid i) ∷ s.behind)))
    (put-there name s.kid s.before s.behind (ap (is_sorted name_cmp) (sym s.whole) ∙ rise) kid))

pub given-set : (name : List ℕ) (kid : NodeValue) (rows new : Rows) (at : ℕ) (x y : Row) → is_sorted name_cmp rows ≡ true → StandsAt name rows at → x ≡ get_or rows at x → y.0 ≡ x.0 → y.1 ≡ kid → new ≡ set rows at y → IsGiven name kid rows new
given-set name kid rows new at x y rise s is same_name same_kid done =
    subst (λ (o : Rows). IsGiven name kid o new) (sym s.whole)
    (subst (λ (n : Rows). IsGiven name kid (s.before ++ (name, s.kid) ∷ s.behind) n) (sym (done ∙ set-there name rows at x y s is same_name ∙ (λ i. s.before ++ (name, same_kid i) ∷ s.behind)))
    (given-there name s.kid s.before s.behind (ap (is_sorted name_cmp) (sym s.whole) ∙ rise) kid))

pub set-rise : (rows : Rows) (at : ℕ) (x y : Row) → is_sorted name_cmp rows ≡ true → at < length rows → x ≡ get_or rows at x → y.0 ≡ x.0 → is_sorted name_cmp (set rows at y) ≡ true
set-rise rows at x y rise inside is same =
    ap (is_sorted name_cmp) (set_split rows at y inside ∙ (λ i. take at rows ++ y ∷ drop (sym (add-one at) i) rows))
    ∙ same-sorted (take at rows) (x ∷ []) (y ∷ []) (drop (at + 1) rows) (ap (λ (k : List ℕ). k ∷ []) same) (ap (is_sorted name_cmp) (sym (split-row rows at x inside is)) ∙ rise)

-- a name more
under-one : (name : List ℕ) (kid : NodeValue) (xs : Rows) → are_below name xs ≡ true → are_under xs ((name, kid) ∷ []) ≡ true
under-one name kid [] h = refl
under-one name kid (x ∷ xs) h = both_hold _ _ (both_hold _ _ (both_first _ _ h) refl) (under-one name kid xs (both_second (is_lt (name_cmp x.0 name)) _ h))

put-between : (name : List ℕ) (kid : NodeValue) (xs ys : Rows) → are_below name xs ≡ true → below_all name_cmp name ys ≡ true → is_sorted name_cmp (xs ++ ys) ≡ true → IsPut name kid (xs ++ ys) (xs ++ (name, kid) ∷ ys)
put-between name kid xs ys l g rise = record {
  entries = sym (insert-between name kid xs ys l g);
  rise = keys-from_sorted (xs ++ (name, kid) ∷ ys) (between xs [] ((name, kid) ∷ []) ys rise refl (under-one name kid xs l) (both_hold _ _ g refl));
  at = λ q. lookup-find q (xs ++ (name, kid) ∷ ys) ∙ changed-between name xs [] ((name, kid) ∷ []) ys (Some kid) l g (λ d. refl) q
      ∙ (λ i. cond ((eq_by_cmp_equiv nat_list_cmp_total).symm q name i) (Some kid) (sym (lookup-find q (xs ++ ys)) i));
}

-- a name put where it goes
pub put-new : (name : List ℕ) (kid : NodeValue) (rows new : Rows) (at : ℕ) → is_sorted name_cmp rows ≡ true → GoesAt name rows at → new ≡ insert rows at (name, kid) → IsPut name kid rows new
put-new name kid rows new at rise g done =
    subst (λ (o : Rows). IsPut name kid o new) (take-append-drop at rows)
    (subst (λ (n : Rows). IsPut name kid (take at rows ++ drop at rows) n) (sym done)
    (put-between name kid (take at rows) (drop at rows) g.before g.behind (ap (is_sorted name_cmp) (take-append-drop at rows) ∙ rise)))

-- ---- a name that is taken

pub taken-at : (name : List ℕ) (rows new : Rows) (at : ℕ) (left : Bool) → is_sorted name_cmp rows ≡ true → StandsAt name rows at → new ≡ remove rows at → IsTrue left ↔ (length new ≡ 0) → IsTaken name rows new left
taken-at name rows new at left rise s done says =
    let same : new ≡ s.before ++ s.behind =
    done ∙ (λ i. take at rows ++ drop (sym (add-one at) i) rows) ∙ (λ i. take (sym s.place i) (s.whole i) ++ drop (sym s.place i + 1) (s.whole i))
    ∙ (λ i. take-append_seam s.before ((name, s.kid) ∷ s.behind) i ++ drop-append-add s.before ((name, s.kid) ∷ s.behind) 1 i) in
    subst (λ (o : Rows). IsTaken name o new left) (sym s.whole)
    (subst (λ (n : Rows). IsTaken name (s.before ++ (name, s.kid) ∷ s.behind) n left) (sym same)
    (taken-there name s.kid s.before s.behind (ap (is_sorted name_cmp) (sym s.whole) ∙ rise) left
    ((λ t. ap length (sym same) ∙ says.0 t), (λ e. says.1 (ap length same ∙ e)))))

remove-absent : (name : List ℕ) (rows : Rows) → find name_cmp name rows ≡ None → rows ≡ remove_entry (is_at (name_cmp name)) rows
remove-absent name [] h = refl
remove-absent name (r ∷ rs) h = by (is_eq (name_cmp name r.0)) (λ none. remove-absent name rs none) h
  where
    some : Some r.1 ≡ None → ⊥
    some q = true≢false (ap is_some q)

    by : (b : Bool) → (find name_cmp name rs ≡ None → rs ≡ remove_entry (is_at (name_cmp name)) rs) → cond b (Some r.1) (find name_cmp name rs) ≡ None → r ∷ rs ≡ cond b rs (r ∷ remove_entry (is_at (name_cmp name)) rs)
    by true go e = absurd (some e)
    by false go e = ap (λ (l : Rows). r ∷ l) (go e)

pub taken-none : (name : List ℕ) (rows : Rows) (at : ℕ) (left : Bool) → is_sorted name_cmp rows ≡ true → GoesAt name rows at → IsTrue left ↔ (length rows ≡ 0) → IsTaken name rows rows left
taken-none name rows at left rise g says = record {
  entries = remove-absent name rows (goes-find name rows at g);
  rise = keys-from_sorted rows rise;
  at = λ q. by q (is_eq (name_cmp name q)) refl;
  left = says;
}
  where
    by : (q : List ℕ) (b : Bool) → is_eq (name_cmp name q) ≡ b → lookup (is_at (name_cmp q)) rows ≡ cond b None (lookup (is_at (name_cmp q)) rows)
    by q false e = refl
    by q true e = ap (λ (c : List ℕ). lookup (is_at (name_cmp c)) rows) (sym (name_same name q e)) ∙ sym (goes-none name rows at g)

-- ---- names that are lent to be changed: themselves, or a copy

pub same-names : (names copied : Rows) → (copied ≡ names) ⊎ (copied ≡ names) → copied ≡ names
same-names names copied (inl same) = same
same-names names copied (inr same) = same

-- ---- names cut in two

pub cut-at : (rows lower upper : Rows) (at : ℕ) → at ≤ length rows → lower ≡ take at rows → upper ≡ drop at rows → IsCutAt at rows lower upper
cut-at rows lower upper at inside low high = record {
  whole = sym (take-append-drop at rows) ∙ (λ i. sym low i ++ sym high i);
  place = ap length low ∙ length-take-le at rows inside;
}

-- both halves of a part have names
pub halved-at : (rows kids lower upper : Rows) (at : ℕ) → rows ≡ kids → 0 < at → at < length kids → IsCutAt at rows lower upper → IsHalved kids lower upper
halved-at rows kids lower upper at same some inside cut = record {
  whole = sym same ∙ cut.whole;
  lower_full = full lower (let p = cut.place in omega arith);
  upper_full = full upper (let p = cut.place in let l = ap length cut.whole ∙ length-append lower upper in let k = ap length same in omega arith);
}
  where
    full : (l : Rows) → 0 < length l → is_full l ≡ true
    full [] h = absurd (omega arith)
    full (x ∷ xs) h = refl

-- nothing is there to be given another node
pub given-none : (name : List ℕ) (kid : NodeValue) (rows : Rows) (at : ℕ) → GoesAt name rows at → IsGiven name kid rows rows
given-none name kid rows at g = record { names = refl; at = λ there. absurd (true≢false (sym there ∙ ap is_some (sym (goes-none name rows at g)))) }

-- ---- a copy

pub copy-row : (done done' all : Rows) (at : ℕ) (x : Row) (key : List ℕ) (v : NodeValue) → done ++ drop at all ≡ all → at < length all → x ≡ get_or all at x → key ≡ x.0 → v ≡ x.1 → done' ≡ done ++ (key, v) ∷ [] → done' ++ drop (at + 1) all ≡ all
copy-row done done' all at x key v so less is same_key same_kid more =
    ap (λ (l : Rows). l ++ drop (at + 1) all) (more ∙ (λ i. done ++ (same_key i, same_kid i) ∷ []))
    ∙ append_assoc done (x ∷ []) (drop (at + 1) all)
    ∙ ap (λ (l : Rows). done ++ l) (sym (drop_more all at x less ∙ ap (λ (q : Row). q ∷ drop (at + 1) all) (sym is))) ∙ so

-- names that are lent rise as those that were
pub same-rise : (old new : Rows) → new ≡ old → is_sorted name_cmp old ≡ true → is_sorted name_cmp new ≡ true
same-rise old new same rise = ap (is_sorted name_cmp) same ∙ rise

-- ---- what is lent

pub stands-of : (name : List ℕ) (seen rows : Rows) (at : ℕ) → seen ≡ rows → StandsAt name seen at → StandsAt name rows at
stands-of name seen rows at same s = subst (λ (r : Rows). StandsAt name r at) same s

pub goes-of : (name : List ℕ) (seen rows : Rows) (at : ℕ) → seen ≡ rows → GoesAt name seen at → GoesAt name rows at
goes-of name seen rows at same g = subst (λ (r : Rows). GoesAt name r at) same g

pub given-of : (name : List ℕ) (kid : NodeValue) (seen rows new : Rows) → seen ≡ rows → IsGiven name kid seen new → IsGiven name kid rows new
given-of name kid seen rows new same h = subst (λ (r : Rows). IsGiven name kid r new) same h

pub taken-of : (name : List ℕ) (seen rows new : Rows) (left : Bool) → seen ≡ rows → IsTaken name seen new left → IsTaken name rows new left
taken-of name seen rows new left same h = subst (λ (r : Rows). IsTaken name r new left) same h

pub taken-same : (name : List ℕ) (rows new new' : Rows) (left : Bool) → new ≡ new' → IsTaken name rows new left → IsTaken name rows new' left
taken-same name rows new new' left same h = subst (λ (r : Rows). IsTaken name rows r left) same h

pub says-none : (n : ℕ) (told : Bool) (rows : Rows) → told ≡ (n == 0) → n ≡ length rows → IsTrue told ↔ (length rows ≡ 0)
says-none n told rows says same = (λ t. sym same ∙ eqb-true n 0 (sym says ∙ t), λ e. says ∙ ap (λ (k : ℕ). k == 0) (same ∙ e))

-- the names before a place, and those from it on
pub first-rise : (rows first : Rows) (at : ℕ) → first ≡ take at rows → is_sorted name_cmp rows ≡ true → is_sorted name_cmp first ≡ true
first-rise rows first at same rise = ap (is_sorted name_cmp) same ∙ sorted-first (take at rows) (drop at rows) (ap (is_sorted name_cmp) (take-append-drop at rows) ∙ rise)

pub second-rise : (rows second : Rows) (at : ℕ) → second ≡ drop at rows → is_sorted name_cmp rows ≡ true → is_sorted name_cmp second ≡ true
second-rise rows second at same rise = ap (is_sorted name_cmp) same ∙ sorted-second (take at rows) (drop at rows) (ap (is_sorted name_cmp) (take-append-drop at rows) ∙ rise)
