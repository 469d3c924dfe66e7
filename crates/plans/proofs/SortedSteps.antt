-- What the code of sorted rows does, step by step.
use Rattle.std.specs.Prelude.{◌≡◌, ℕ, ◌+◌, ◌<◌, ◌≤◌, true, cond, Some, None, List, [], ◌∷◌, ◌++◌, length, take, drop, set, get_or}
use Rattle.std.proofs.Common.{sym, ap, refl, ◌∙◌, subst, true≢false, take-append-drop, arith}
use Rattle.std.proofs.lemmas.List.{drop_more, take_more, drop_all, length-take-le}
use Rattle.std.proofs.Math.Seq.{get_or-append_seam}
use Rattle.std.specs.List.{insert as insert_at}
use Rattle.std.specs.Ordering.{is_lt, is_eq, ordering_reverse, flip_args}
use Rattle.std.specs.declared.cmp.Ordering.{Ordering}
use Rattle.std.specs.declared.cmp.Ordering.TheVariants.{Less, Equal, Greater}
use Rattle.std.specs.Cmp.{IsTotalOrder, back_total}
use Rattle.std.specs.Cmp.Lexicographic.{nat_list_cmp_total}
use Rattle.std.specs.FinMap.{get, from_entries}
use Rattle.std.specs.FinMap.Entries.{find, put, is_sorted, below_all, by_order}
use Rattle.paths.proofs.FrontLaws.{name_same, name_itself, both_hold, both_first, both_second}
use Rattle.plans.specs.Sources.{name_cmp}
use Rattle.plans.specs.PrivateSorted.{falling, StandsAt, GoesAt}
use Rattle.plans.proofs.MapViews.{below_push, unfound, get_is}

less : (o : Ordering) → is_lt o ≡ true → o ≡ Less
less Less e = refl
less Equal e = absurd (true≢false (sym e))
less Greater e = absurd (true≢false (sym e))

equal : (name : List ℕ) → name_cmp name name ≡ Equal
equal name = by (name_cmp name name) (name_itself name)
  where
    by : (o : Ordering) → is_eq o ≡ true → o ≡ Equal
    by Less e = absurd (true≢false (sym e))
    by Equal e = refl
    by Greater e = absurd (true≢false (sym e))

-- a name stands behind those that are above it
behind_above : (name other : List ℕ) → is_lt (name_cmp name other) ≡ true → falling name other ≡ Greater
behind_above name other h = nat_list_cmp_total.antisymm other name ∙ ap ordering_reverse (less _ h)

module _ {K X : Type 0} (R : K → K → Ordering) where
  less_below : IsTotalOrder R → (c d : K) (ys : List (K × X)) → R c d ≡ Less → below_all R d ys ≡ true → below_all R c ys ≡ true
  less_below o c d [] l h = refl
  less_below o c d (y ∷ ys) l h = both_hold _ _ (ap is_lt (o.trans c d y.0 l (less _ (both_first _ _ h)))) (less_below o c d ys l (both_second (is_lt (R d y.0)) _ h))

  sorted_second : (xs ys : List (K × X)) → is_sorted R (xs ++ ys) ≡ true → is_sorted R ys ≡ true
  sorted_second [] ys s = s
  sorted_second (x ∷ xs) ys s = sorted_second xs ys (both_second (below_all R x.0 (xs ++ ys)) _ s)

  -- of rows that fall, those before one are above it
  above_before : (xs ys : List (K × X)) (x : K × X) → is_sorted (flip_args R) (xs ++ x ∷ ys) ≡ true → below_all R x.0 xs ≡ true
  above_before [] ys x s = refl
  above_before (z ∷ zs) ys x s = both_hold _ _ (seam zs (both_first _ _ s)) (above_before zs ys x (both_second (below_all (flip_args R) z.0 (zs ++ x ∷ ys)) _ s))
    where
      seam : (ws : List (K × X)) → below_all (flip_args R) z.0 (ws ++ x ∷ ys) ≡ true → is_lt (R x.0 z.0) ≡ true
      seam [] h = both_first _ _ h
      seam (w ∷ ws) h = seam ws (both_second (is_lt (R w.0 z.0)) _ h)

module _ {V : Type 0} where
  -- ---- the search for a name

  split_row : (rows : List (List ℕ × V)) (at : ℕ) (x : List ℕ × V) → at < length rows → x ≡ get_or rows at x → rows ≡ take at rows ++ x ∷ drop (at + 1) rows
  split_row rows at x less is = sym (take-append-drop at rows) ∙ ap (λ (r : List (List ℕ × V)). take at rows ++ r) (drop_more rows at x less ∙ ap (λ (q : List ℕ × V). q ∷ drop (at + 1) rows) (sym is))

  -- how far the search is
  pub record IsSought (name : List ℕ) (rows : List (List ℕ × V)) (low high : ℕ) : Type 0 where
    pub order : low ≤ high
    pub within : high ≤ length rows
    pub before : below_all name_cmp name (take low rows) ≡ true
    pub behind : below_all falling name (drop high rows) ≡ true

  pub sought_start : (name : List ℕ) (rows : List (List ℕ × V)) → IsSought name rows 0 (length rows)
  sought_start name rows = record { order = omega arith; within = omega arith; before = refl; behind = ap (below_all falling name) (drop_all (length rows) rows (omega arith)) }

  module _ (name : List ℕ) (rows : List (List ℕ × V)) (falls : is_sorted falling rows ≡ true) (low high mid : ℕ) (so : IsSought name rows low high) (more : low ≤ mid) (under : mid < high) (x : List ℕ × V) (is : x ≡ get_or rows mid x) where
    inside : mid < length rows
    inside = let w = so.within in omega arith

    abbrev rest : List (List ℕ × V)
    rest = drop (mid + 1) rows

    whole : is_sorted falling (take mid rows ++ x ∷ rest) ≡ true
    whole = ap (is_sorted falling) (sym (split_row rows mid x inside is)) ∙ falls

    pub sought_back : name_cmp name x.0 ≡ Greater → IsSought name rows low mid
    sought_back g =
        let behind_it : falling name x.0 ≡ Less = nat_list_cmp_total.antisymm x.0 name ∙ ap ordering_reverse g in
        record {
          order = more;
          within = let h = inside in omega arith;
          before = so.before;
          behind =
              ap (below_all falling name) (drop_more rows mid x inside ∙ ap (λ (q : List ℕ × V). q ∷ rest) (sym is))
              ∙ both_hold _ _ (ap is_lt behind_it) (less_below falling (back_total nat_list_cmp_total) name x.0 rest behind_it (both_first _ _ (sorted_second falling (take mid rows) (x ∷ rest) whole)));
        }

    pub sought_on : name_cmp name x.0 ≡ Less → IsSought name rows (mid + 1) high
    sought_on l = record {
      order = omega arith;
      within = so.within;
      before =
          ap (below_all name_cmp name) (take_more rows mid x inside ∙ ap (λ (q : List ℕ × V). take mid rows ++ q ∷ []) (sym is))
          ∙ below_push name_cmp name (take mid rows) x (less_below name_cmp nat_list_cmp_total name x.0 (take mid rows) l (above_before name_cmp (take mid rows) rest x whole)) (ap is_lt l);
      behind = so.behind;
    }

    pub sought_here : name_cmp name x.0 ≡ Equal → StandsAt name rows mid
    sought_here e = record {
      before = take mid rows;
      value = x.1;
      behind = rest;
      whole = split_row rows mid x inside is ∙ (λ i. take mid rows ++ (sym (name_same name x.0 (ap is_eq e)) i, x.1) ∷ rest);
      place = length-take-le mid rows (let h = inside in omega arith);
    }

  pub sought_done : (name : List ℕ) (rows : List (List ℕ × V)) (low high : ℕ) → IsSought name rows low high → high ≤ low → GoesAt name rows low
  sought_done name rows low high so near =
      let same : high ≡ low = (let o = so.order in omega arith) in
      record { within = let w = so.within in omega arith; before = so.before; behind = subst (λ (n : ℕ). below_all falling name (drop n rows) ≡ true) same so.behind }

  -- ---- what is found

  pub stands_inside : (name : List ℕ) (rows : List (List ℕ × V)) (at : ℕ) → StandsAt name rows at → at < length rows
  stands_inside name rows at s = inside s.before (ap length s.whole) s.place
    where
      inside : (xs : List (List ℕ × V)) → length rows ≡ length (xs ++ (name, s.value) ∷ s.behind) → length xs ≡ at → at < length rows
      inside xs e p = let h = longer xs in omega arith
        where
          longer : (ys : List (List ℕ × V)) → length ys < length (ys ++ (name, s.value) ∷ s.behind)
          longer [] = omega arith
          longer (y ∷ ys) = let r = longer ys in omega arith

  stands_row : (name : List ℕ) (rows : List (List ℕ × V)) (at : ℕ) (x : List ℕ × V) (s : StandsAt name rows at) → x ≡ get_or rows at x → x ≡ (name, s.value)
  stands_row name rows at x s is = is ∙ (λ i. get_or (s.whole i) (sym s.place i) x) ∙ get_or-append_seam s.before (name, s.value) s.behind x

  -- before a name's place stands no row of it
  find_on : (name : List ℕ) (xs ys : List (List ℕ × V)) → below_all name_cmp name xs ≡ true → find falling name (xs ++ ys) ≡ find falling name ys
  find_on name [] ys h = refl
  find_on name (x ∷ xs) ys h =
      ap (λ o. cond (is_eq o) (Some x.1) (find falling name (xs ++ ys))) (behind_above name x.0 (both_first _ _ h))
      ∙ find_on name xs ys (both_second (is_lt (name_cmp name x.0)) _ h)

  before_falls : (name : List ℕ) (rows : List (List ℕ × V)) (at : ℕ) → is_sorted falling rows ≡ true → (s : StandsAt name rows at) → below_all name_cmp name s.before ≡ true
  before_falls name rows at falls s = above_before name_cmp s.before s.behind (name, s.value) (ap (is_sorted falling) (sym s.whole) ∙ falls)

  pub stands_found : (name : List ℕ) (rows : List (List ℕ × V)) (at : ℕ) (x : List ℕ × V) → is_sorted falling rows ≡ true → StandsAt name rows at → x ≡ get_or rows at x → Some x.1 ≡ get (from_entries {R = name_cmp} rows) name
  stands_found name rows at x falls s is =
      ap (λ (r : List ℕ × V). Some r.1) (stands_row name rows at x s is)
      ∙ sym (
      get_is rows name ∙ ap (find falling name) s.whole ∙ find_on name s.before ((name, s.value) ∷ s.behind) (before_falls name rows at falls s)
      ∙ ap (λ o. cond (is_eq o) (Some s.value) (find falling name s.behind)) (equal name)
      )

  pub goes_none : (name : List ℕ) (rows : List (List ℕ × V)) (at : ℕ) → GoesAt name rows at → None ≡ get (from_entries {R = name_cmp} rows) name
  goes_none name rows at g = sym (
      get_is rows name ∙ ap (find falling name) (sym (take-append-drop at rows)) ∙ find_on name (take at rows) (drop at rows) g.before
      ∙ unfound falling name (drop at rows) g.behind
      )

  -- ---- a row that is put

  put_on : (name : List ℕ) (value : V) (xs ys : List (List ℕ × V)) → below_all name_cmp name xs ≡ true → put falling name value (xs ++ ys) ≡ xs ++ put falling name value ys
  put_on name value [] ys h = refl
  put_on name value (x ∷ xs) ys h =
      ap (λ o. by_order o ((name, value) ∷ x ∷ (xs ++ ys)) ((x.0, value) ∷ (xs ++ ys)) (x ∷ put falling name value (xs ++ ys))) (behind_above name x.0 (both_first _ _ h))
      ∙ ap (λ (l : List (List ℕ × V)). x ∷ l) (put_on name value xs ys (both_second (is_lt (name_cmp name x.0)) _ h))

  put_first : (name : List ℕ) (value : V) (ys : List (List ℕ × V)) → below_all falling name ys ≡ true → put falling name value ys ≡ (name, value) ∷ ys
  put_first name value [] h = refl
  put_first name value (y ∷ ys) h = ap (λ o. by_order o ((name, value) ∷ y ∷ ys) ((y.0, value) ∷ ys) (y ∷ put falling name value ys)) (less _ (both_first _ _ h))

  set_seam : (xs : List (List ℕ × V)) (y z : List ℕ × V) (ys : List (List ℕ × V)) → set (xs ++ y ∷ ys) (length xs) z ≡ xs ++ z ∷ ys
  set_seam [] y z ys = refl
  set_seam (x ∷ xs) y z ys = ap (λ (l : List (List ℕ × V)). x ∷ l) (set_seam xs y z ys)

  -- another value for a name that stands there
  pub put_set : (name : List ℕ) (value : V) (rows new : List (List ℕ × V)) (at : ℕ) (x : List ℕ × V) → is_sorted falling rows ≡ true → StandsAt name rows at → x ≡ get_or rows at x → new ≡ set rows at (x.0, value) → new ≡ put falling name value rows
  put_set name value rows new at x falls s is done =
      done
      ∙ (λ i. set (s.whole i) (sym s.place i) ((stands_row name rows at x s is i).0, value)) ∙ set_seam s.before (name, s.value) (name, value) s.behind
      ∙ ap (λ (l : List (List ℕ × V)). s.before ++ l)
      (sym (ap (λ o. by_order o ((name, value) ∷ (name, s.value) ∷ s.behind) ((name, value) ∷ s.behind) ((name, s.value) ∷ put falling name value s.behind)) (equal name)))
      ∙ sym (put_on name value s.before ((name, s.value) ∷ s.behind) (before_falls name rows at falls s))
      ∙ ap (put falling name value) (sym s.whole)

  -- a row more
  pub put_new : (name : List ℕ) (value : V) (rows new : List (List ℕ × V)) (at : ℕ) → GoesAt name rows at → new ≡ insert_at rows at (name, value) → new ≡ put falling name value rows
  put_new name value rows new at g done =
      done
      ∙ ap (λ (l : List (List ℕ × V)). take at rows ++ l) (sym (put_first name value (drop at rows) g.behind))
      ∙ sym (put_on name value (take at rows) (drop at rows) g.before)
      ∙ ap (put falling name value) (take-append-drop at rows)

  -- rows that are lent are the same rows
  pub stands_of : (name : List ℕ) (lent rows : List (List ℕ × V)) (at : ℕ) → lent ≡ rows → StandsAt name lent at → StandsAt name rows at
  stands_of name lent rows at same s = subst (λ (r : List (List ℕ × V)). StandsAt name r at) same s

  pub goes_of : (name : List ℕ) (lent rows : List (List ℕ × V)) (at : ℕ) → lent ≡ rows → GoesAt name lent at → GoesAt name rows at
  goes_of name lent rows at same g = subst (λ (r : List (List ℕ × V)). GoesAt name r at) same g
