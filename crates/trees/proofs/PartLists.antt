-- Children in parts: where a name stands, and what a change of one part does to all.
use Rattle.std.specs.Prelude.{◌≡◌, ℕ, ◌+◌, ◌<◌, Bool, true, false, ◌&&◌, cond, Option, Some, None, List, [], ◌∷◌, ◌++◌, length, take, drop, get_or}
use Rattle.std.proofs.Common.{sym, ap, refl, ◌∙◌, subst, true≢false, append_assoc, take-append-drop, zero, suc, ◌≤◌, arith}
use Rattle.std.proofs.lemmas.List.{drop_more}
use Rattle.std.specs.Option.{option_or}
use Rattle.std.specs.Ordering.{eq_by_cmp, is_lt, is_eq, ordering_reverse, match_ordering}
use Rattle.std.specs.declared.cmp.Ordering.{Ordering}
use Rattle.std.specs.declared.cmp.Ordering.TheVariants.{Less, Equal, Greater}
use Rattle.std.specs.Cmp.Lexicographic.{nat_list_cmp_total}
use Rattle.std.specs.Map.{keys_of, remove_entry}
use Rattle.std.specs.BTreeMap.{insert_entry}
use Rattle.std.specs.FinMap.{find}
use Rattle.std.specs.FinMap.Entries.{is_sorted, below_all}
use Rattle.paths.specs.Order.{name_cmp}
use Rattle.paths.proofs.FrontLaws.{name_same, both_hold, both_first, both_second}
use Rattle.trees.specs.PrivateNode.{flat, is_full, are_full, are_parts, are_below, begins_past, IsPlace}

pub less : (o : Ordering) → is_lt o ≡ true → o ≡ Less
less Less e = refl
less Equal e = absurd (true≢false (sym e))
less Greater e = absurd (true≢false (sym e))

abbrev names_below : List ℕ → List (List ℕ) → Bool
names_below c [] = true
names_below c (d ∷ ds) = is_lt (name_cmp c d) && names_below c ds

abbrev names_rise : List (List ℕ) → Bool
names_rise [] = true
names_rise (d ∷ ds) = names_below d ds && names_rise ds

not-past : (name k : List ℕ) (x : List ℕ) → is_lt (name_cmp name k) ≡ false → name_cmp x k ≡ Less → name_cmp x name ≡ Less
not-past name k x b l = by (name_cmp name k) refl b
  where
    by : (o : Ordering) → name_cmp name k ≡ o → is_lt o ≡ false → name_cmp x name ≡ Less
    by Less e f = absurd (true≢false f)
    by Equal e f = ap (name_cmp x) (name_same name k (ap is_eq e)) ∙ l
    by Greater e f = nat_list_cmp_total.trans x k name l (nat_list_cmp_total.antisymm k name ∙ ap ordering_reverse e)

abbrev none : (V : Type 0) → List (List (List ℕ × V))
none V = []

module _ {V : Type 0} where
  -- whether each of the first names is below each of the others
  abbrev pub are_under : List (List ℕ × V) → List (List ℕ × V) → Bool
  are_under [] ys = true
  are_under (x ∷ xs) ys = below_all name_cmp x.0 ys && are_under xs ys

  -- ---- lists one after the other

  below-append : (c : List ℕ) (xs ys : List (List ℕ × V)) → below_all name_cmp c xs ≡ true → below_all name_cmp c ys ≡ true → below_all name_cmp c (xs ++ ys) ≡ true
  below-append c [] ys h g = g
  below-append c (x ∷ xs) ys h g = both_hold _ _ (both_first _ _ h) (below-append c xs ys (both_second (is_lt (name_cmp c x.0)) _ h) g)

  below-first : (c : List ℕ) (xs ys : List (List ℕ × V)) → below_all name_cmp c (xs ++ ys) ≡ true → below_all name_cmp c xs ≡ true
  below-first c [] ys h = refl
  below-first c (x ∷ xs) ys h = both_hold _ _ (both_first _ _ h) (below-first c xs ys (both_second (is_lt (name_cmp c x.0)) _ h))

  below-second : (c : List ℕ) (xs ys : List (List ℕ × V)) → below_all name_cmp c (xs ++ ys) ≡ true → below_all name_cmp c ys ≡ true
  below-second c [] ys h = h
  below-second c (x ∷ xs) ys h = below-second c xs ys (both_second (is_lt (name_cmp c x.0)) _ h)

  -- lists that rise, the first below the second, rise together
  sorted-together : (xs ys : List (List ℕ × V)) → is_sorted name_cmp xs ≡ true → is_sorted name_cmp ys ≡ true → are_under xs ys ≡ true → is_sorted name_cmp (xs ++ ys) ≡ true
  sorted-together [] ys s t u = t
  sorted-together (x ∷ xs) ys s t u =
      both_hold _ _ (below-append x.0 xs ys (both_first _ _ s) (both_first _ _ u)) (sorted-together xs ys (both_second (below_all name_cmp x.0 xs) _ s) t (both_second (below_all name_cmp x.0 ys) _ u))

  pub sorted-first : (xs ys : List (List ℕ × V)) → is_sorted name_cmp (xs ++ ys) ≡ true → is_sorted name_cmp xs ≡ true
  sorted-first [] ys s = refl
  sorted-first (x ∷ xs) ys s = both_hold _ _ (below-first x.0 xs ys (both_first _ _ s)) (sorted-first xs ys (both_second (below_all name_cmp x.0 (xs ++ ys)) _ s))

  pub sorted-second : (xs ys : List (List ℕ × V)) → is_sorted name_cmp (xs ++ ys) ≡ true → is_sorted name_cmp ys ≡ true
  sorted-second [] ys s = s
  sorted-second (x ∷ xs) ys s = sorted-second xs ys (both_second (below_all name_cmp x.0 (xs ++ ys)) _ s)

  pub sorted-under : (xs ys : List (List ℕ × V)) → is_sorted name_cmp (xs ++ ys) ≡ true → are_under xs ys ≡ true
  sorted-under [] ys s = refl
  sorted-under (x ∷ xs) ys s = both_hold _ _ (below-second x.0 xs ys (both_first _ _ s)) (sorted-under xs ys (both_second (below_all name_cmp x.0 (xs ++ ys)) _ s))

  pub under-first : (xs ys zs : List (List ℕ × V)) → are_under xs (ys ++ zs) ≡ true → are_under xs ys ≡ true
  under-first [] ys zs u = refl
  under-first (x ∷ xs) ys zs u = both_hold _ _ (below-first x.0 ys zs (both_first _ _ u)) (under-first xs ys zs (both_second (below_all name_cmp x.0 (ys ++ zs)) _ u))

  pub under-second : (xs ys zs : List (List ℕ × V)) → are_under xs (ys ++ zs) ≡ true → are_under xs zs ≡ true
  under-second [] ys zs u = refl
  under-second (x ∷ xs) ys zs u = both_hold _ _ (below-second x.0 ys zs (both_first _ _ u)) (under-second xs ys zs (both_second (below_all name_cmp x.0 (ys ++ zs)) _ u))

  under-append : (xs ys zs : List (List ℕ × V)) → are_under xs ys ≡ true → are_under xs zs ≡ true → are_under xs (ys ++ zs) ≡ true
  under-append [] ys zs u w = refl
  under-append (x ∷ xs) ys zs u w =
      both_hold _ _ (below-append x.0 ys zs (both_first _ _ u) (both_first _ _ w)) (under-append xs ys zs (both_second (below_all name_cmp x.0 ys) _ u) (both_second (below_all name_cmp x.0 zs) _ w))

  pub under-none : (xs : List (List ℕ × V)) → are_under xs [] ≡ true
  under-none [] = refl
  under-none (x ∷ xs) = under-none xs

  -- a list between two others changes, and stays between them
  pub between : (xs ps qs ys : List (List ℕ × V)) → is_sorted name_cmp (xs ++ (ps ++ ys)) ≡ true → is_sorted name_cmp qs ≡ true → are_under xs qs ≡ true → are_under qs ys ≡ true → is_sorted name_cmp (xs ++ (qs ++ ys)) ≡ true
  between xs ps qs ys s t u w =
      let rest : is_sorted name_cmp (ps ++ ys) ≡ true = sorted-second xs (ps ++ ys) s in
      let apart : are_under xs (ps ++ ys) ≡ true = sorted-under xs (ps ++ ys) s in
      sorted-together xs (qs ++ ys) (sorted-first xs (ps ++ ys) s) (sorted-together qs ys t (sorted-second ps ys rest) w) (under-append xs qs ys u (under-second xs ps ys apart))

  -- ---- a name more

  below-insert : (c name : List ℕ) (v : V) (ps : List (List ℕ × V)) → name_cmp c name ≡ Less → below_all name_cmp c ps ≡ true → below_all name_cmp c (insert_entry name_cmp ps name v) ≡ true
  below-insert c name v [] l h = both_hold _ _ (ap is_lt l) refl
  below-insert c name v (p ∷ ps) l h = by (below-insert c name v ps l (both_second (is_lt (name_cmp c p.0)) _ h)) (name_cmp name p.0)
    where
      by : below_all name_cmp c (insert_entry name_cmp ps name v) ≡ true → (o : Ordering) → below_all name_cmp c (match_ordering o ((name, v) ∷ p ∷ ps) ((p.0, v) ∷ ps) (p ∷ insert_entry name_cmp ps name v)) ≡ true
      by rest Less = both_hold _ _ (ap is_lt l) h
      by rest Equal = both_hold _ _ (both_first _ _ h) (both_second (is_lt (name_cmp c p.0)) _ h)
      by rest Greater = both_hold _ _ (both_first _ _ h) rest

  pub under-insert : (xs ps : List (List ℕ × V)) (name : List ℕ) (v : V) → are_below name xs ≡ true → are_under xs ps ≡ true → are_under xs (insert_entry name_cmp ps name v) ≡ true
  under-insert [] ps name v l u = refl
  under-insert (x ∷ xs) ps name v l u =
      both_hold _ _ (below-insert x.0 name v ps (less _ (both_first _ _ l)) (both_first _ _ u)) (under-insert xs ps name v (both_second (is_lt (name_cmp x.0 name)) _ l) (both_second (below_all name_cmp x.0 ps) _ u))

  pub insert-under : (ps ys : List (List ℕ × V)) (name : List ℕ) (v : V) → below_all name_cmp name ys ≡ true → are_under ps ys ≡ true → are_under (insert_entry name_cmp ps name v) ys ≡ true
  insert-under [] ys name v l u = both_hold _ _ l refl
  insert-under (p ∷ ps) ys name v l u = by (insert-under ps ys name v l (both_second (below_all name_cmp p.0 ys) _ u)) (name_cmp name p.0)
    where
      by : are_under (insert_entry name_cmp ps name v) ys ≡ true → (o : Ordering) → are_under (match_ordering o ((name, v) ∷ p ∷ ps) ((p.0, v) ∷ ps) (p ∷ insert_entry name_cmp ps name v)) ys ≡ true
      by rest Less = both_hold _ _ l u
      by rest Equal = both_hold _ _ (both_first _ _ u) (both_second (below_all name_cmp p.0 ys) _ u)
      by rest Greater = both_hold _ _ (both_first _ _ u) rest

  pub full-insert : (ps : List (List ℕ × V)) (name : List ℕ) (v : V) → is_full (insert_entry name_cmp ps name v) ≡ true
  full-insert [] name v = refl
  full-insert (p ∷ ps) name v = by (name_cmp name p.0)
    where
      by : (o : Ordering) → is_full (match_ordering o ((name, v) ∷ p ∷ ps) ((p.0, v) ∷ ps) (p ∷ insert_entry name_cmp ps name v)) ≡ true
      by Less = refl
      by Equal = refl
      by Greater = refl

  -- ---- a name less

  below-remove : (c : List ℕ) (test : List ℕ → Bool) (ps : List (List ℕ × V)) → below_all name_cmp c ps ≡ true → below_all name_cmp c (remove_entry test ps) ≡ true
  below-remove c test [] h = refl
  below-remove c test (p ∷ ps) h = by (below-remove c test ps (both_second (is_lt (name_cmp c p.0)) _ h)) (test p.0)
    where
      by : below_all name_cmp c (remove_entry test ps) ≡ true → (b : Bool) → below_all name_cmp c (cond b ps (p ∷ remove_entry test ps)) ≡ true
      by rest true = both_second (is_lt (name_cmp c p.0)) _ h
      by rest false = both_hold _ _ (both_first _ _ h) rest

  pub under-remove : (xs ps : List (List ℕ × V)) (test : List ℕ → Bool) → are_under xs ps ≡ true → are_under xs (remove_entry test ps) ≡ true
  under-remove [] ps test u = refl
  under-remove (x ∷ xs) ps test u = both_hold _ _ (below-remove x.0 test ps (both_first _ _ u)) (under-remove xs ps test (both_second (below_all name_cmp x.0 ps) _ u))

  pub remove-under : (ps ys : List (List ℕ × V)) (test : List ℕ → Bool) → are_under ps ys ≡ true → are_under (remove_entry test ps) ys ≡ true
  remove-under [] ys test u = refl
  remove-under (p ∷ ps) ys test u = by (remove-under ps ys test (both_second (below_all name_cmp p.0 ys) _ u)) (test p.0)
    where
      by : are_under (remove_entry test ps) ys ≡ true → (b : Bool) → are_under (cond b ps (p ∷ remove_entry test ps)) ys ≡ true
      by rest true = both_second (below_all name_cmp p.0 ys) _ u
      by rest false = both_hold _ _ (both_first _ _ u) rest

  -- ---- the same names

  below-names : (c : List ℕ) (ps : List (List ℕ × V)) → below_all name_cmp c ps ≡ names_below c (keys_of ps)
  below-names c [] = refl
  below-names c (p ∷ ps) = ap (λ b. is_lt (name_cmp c p.0) && b) (below-names c ps)

  sorted-names : (ps : List (List ℕ × V)) → is_sorted name_cmp ps ≡ names_rise (keys_of ps)
  sorted-names [] = refl
  sorted-names (p ∷ ps) = λ i. below-names p.0 ps i && sorted-names ps i

  pub names-append : (xs ys : List (List ℕ × V)) → keys_of (xs ++ ys) ≡ keys_of xs ++ keys_of ys
  names-append [] ys = refl
  names-append (x ∷ xs) ys = ap (λ l. x.0 ∷ l) (names-append xs ys)

  pub same-sorted : (xs ps qs ys : List (List ℕ × V)) → keys_of qs ≡ keys_of ps → is_sorted name_cmp (xs ++ (ps ++ ys)) ≡ true → is_sorted name_cmp (xs ++ (qs ++ ys)) ≡ true
  same-sorted xs ps qs ys same s =
      sorted-names (xs ++ (qs ++ ys))
      ∙ ap names_rise (names-append xs (qs ++ ys) ∙ ap (λ l. keys_of xs ++ l) (names-append qs ys ∙ ap (λ l. l ++ keys_of ys) same ∙ sym (names-append ps ys)) ∙ sym (names-append xs (ps ++ ys)))
      ∙ sym (sorted-names (xs ++ (ps ++ ys))) ∙ s

  pub same-full : (ps qs : List (List ℕ × V)) → keys_of qs ≡ keys_of ps → is_full ps ≡ true → is_full qs ≡ true
  same-full [] qs same f = absurd (true≢false (sym f))
  same-full (p ∷ ps) [] same f = absurd (omega (arith, ap length same))
  same-full (p ∷ ps) (q ∷ qs) same f = refl

  -- ---- one part of all

  pub flat-append : (ls ms : List (List (List ℕ × V))) → flat (ls ++ ms) ≡ flat ls ++ flat ms
  flat-append [] ms = refl
  flat-append (l ∷ ls) ms = ap (λ r. l ++ r) (flat-append ls ms) ∙ sym (append_assoc l (flat ls) (flat ms))

  pub full-append : (ls ms : List (List (List ℕ × V))) → are_full ls ≡ true → are_full ms ≡ true → are_full (ls ++ ms) ≡ true
  full-append [] ms f g = g
  full-append (l ∷ ls) ms f g = both_hold _ _ (both_first _ _ f) (full-append ls ms (both_second (is_full l) _ f) g)

  pub full-second : (ls ms : List (List (List ℕ × V))) → are_full (ls ++ ms) ≡ true → are_full ms ≡ true
  full-second [] ms f = f
  full-second (l ∷ ls) ms f = full-second ls ms (both_second (is_full l) _ f)

  pub full-first : (ls ms : List (List (List ℕ × V))) → are_full (ls ++ ms) ≡ true → are_full ls ≡ true
  full-first [] ms f = refl
  full-first (l ∷ ls) ms f = both_hold _ _ (both_first _ _ f) (full-first ls ms (both_second (is_full l) _ f))

  pub flat-one : (xs : List (List (List ℕ × V))) (p : List (List ℕ × V)) (ys : List (List (List ℕ × V))) → flat (xs ++ p ∷ ys) ≡ flat xs ++ (p ++ flat ys)
  flat-one xs p ys = flat-append xs (p ∷ ys)

  -- ---- what is found

  pub find-append : (q : List ℕ) (xs ys : List (List ℕ × V)) → find name_cmp q (xs ++ ys) ≡ option_or (find name_cmp q xs) (find name_cmp q ys)
  find-append q [] ys = refl
  find-append q (x ∷ xs) ys = ap (cond (eq_by_cmp name_cmp q x.0) (Some x.1)) (find-append q xs ys) ∙ out (eq_by_cmp name_cmp q x.0) (find name_cmp q xs)
    where
      out : (b : Bool) (o : Option V) → cond b (Some x.1) (option_or o (find name_cmp q ys)) ≡ option_or (cond b (Some x.1) o) (find name_cmp q ys)
      out true o = refl
      out false o = refl

  pub not-below : (name : List ℕ) (xs : List (List ℕ × V)) → are_below name xs ≡ true → find name_cmp name xs ≡ None
  not-below name [] h = refl
  not-below name (x ∷ xs) h =
      let above : name_cmp name x.0 ≡ Greater = nat_list_cmp_total.antisymm name x.0 ∙ ap ordering_reverse (less _ (both_first _ _ h)) in
      ap (λ o. cond (is_eq o) (Some x.1) (find name_cmp name xs)) above ∙ not-below name xs (both_second (is_lt (name_cmp x.0 name)) _ h)

  pub not-above : (name : List ℕ) (ys : List (List ℕ × V)) → below_all name_cmp name ys ≡ true → find name_cmp name ys ≡ None
  not-above name [] h = refl
  not-above name (y ∷ ys) h = ap (λ o. cond (is_eq o) (Some y.1) (find name_cmp name ys)) (less _ (both_first _ _ h)) ∙ not-above name ys (both_second (is_lt (name_cmp name y.0)) _ h)

  or-none : (o : Option V) → option_or o None ≡ o
  or-none None = refl
  or-none (Some v) = refl

  -- a name is found in its part
  pub find-between : (name : List ℕ) (xs ps ys : List (List ℕ × V)) → are_below name xs ≡ true → below_all name_cmp name ys ≡ true → find name_cmp name (xs ++ (ps ++ ys)) ≡ find name_cmp name ps
  find-between name xs ps ys l g =
      find-append name xs (ps ++ ys) ∙ (λ i. option_or (not-below name xs l i) (find name_cmp name (ps ++ ys)))
      ∙ find-append name ps ys ∙ ap (option_or (find name_cmp name ps)) (not-above name ys g) ∙ or-none (find name_cmp name ps)

  -- and what changes there alone changes in all
  pub changed-between : (name : List ℕ) (xs ps qs ys : List (List ℕ × V)) (kid : Option V) → are_below name xs ≡ true → below_all name_cmp name ys ≡ true → ((d : List ℕ) → find name_cmp d qs ≡ cond (eq_by_cmp name_cmp d name) kid (find name_cmp d ps))
      → (d : List ℕ) → find name_cmp d (xs ++ (qs ++ ys)) ≡ cond (eq_by_cmp name_cmp d name) kid (find name_cmp d (xs ++ (ps ++ ys)))
  changed-between name xs ps qs ys kid l g at d =
      find-append d xs (qs ++ ys) ∙ ap (option_or (find name_cmp d xs)) (find-append d qs ys ∙ ap (λ o. option_or o (find name_cmp d ys)) (at d))
      ∙ by (eq_by_cmp name_cmp d name) refl
      ∙ ap (cond (eq_by_cmp name_cmp d name) kid) (sym (find-append d xs (ps ++ ys) ∙ ap (option_or (find name_cmp d xs)) (find-append d ps ys)))
    where
      by : (tie : Bool) → eq_by_cmp name_cmp d name ≡ tie → option_or (find name_cmp d xs) (option_or (cond tie kid (find name_cmp d ps)) (find name_cmp d ys)) ≡ cond tie kid (option_or (find name_cmp d xs) (option_or (find name_cmp d ps) (find name_cmp d ys)))
      by false e = refl
      by true e =
          let same : d ≡ name = name_same d name e in
          (λ i. option_or ((ap (λ c. find name_cmp c xs) same ∙ not-below name xs l) i) (option_or kid (find name_cmp d ys)))
          ∙ ap (option_or kid) (ap (λ c. find name_cmp c ys) same ∙ not-above name ys g) ∙ or-none kid

  -- ---- the place of a name

  -- a list cut at one of its lists
  pub split-at : (ls : List (List (List ℕ × V))) (at : ℕ) (p : List (List ℕ × V)) → at < length ls → p ≡ get_or ls at p → ls ≡ take at ls ++ p ∷ drop (at + 1) ls
  split-at ls at p less is = sym (take-append-drop at ls) ∙ ap (λ r. take at ls ++ r) (drop_more ls at p less ∙ ap (λ q. q ∷ drop (at + 1) ls) (sym is))

  pub flat-cut : (ls : List (List (List ℕ × V))) (at : ℕ) (p : List (List ℕ × V)) → at < length ls → p ≡ get_or ls at p → flat ls ≡ flat (take at ls) ++ (p ++ flat (drop (at + 1) ls))
  flat-cut ls at p less is = ap flat (split-at ls at p less is) ∙ flat-one (take at ls) p (drop (at + 1) ls)

  pub less-below : (c d : List ℕ) (ys : List (List ℕ × V)) → name_cmp c d ≡ Less → below_all name_cmp d ys ≡ true → below_all name_cmp c ys ≡ true
  less-below c d [] l h = refl
  less-below c d (y ∷ ys) l h = both_hold _ _ (ap is_lt (nat_list_cmp_total.trans c d y.0 l (less _ (both_first _ _ h)))) (less-below c d ys l (both_second (is_lt (name_cmp d y.0)) _ h))

  -- a part that begins past a name, and all behind it, is above the name
  above-from : (name : List ℕ) (p ys : List (List ℕ × V)) → is_sorted name_cmp (p ++ ys) ≡ true → begins_past name p ≡ true → below_all name_cmp name (p ++ ys) ≡ true
  above-from name [] ys s b = absurd (true≢false (sym b))
  above-from name (k ∷ ks) ys s b = both_hold _ _ b (less-below name k.0 (ks ++ ys) (less _ b) (both_first _ _ s))

  pub below-until : (name k : List ℕ) (v : V) (ks xs : List (List ℕ × V)) → is_lt (name_cmp name k) ≡ false → are_under xs ((k, v) ∷ ks) ≡ true → are_below name xs ≡ true
  below-until name k v ks [] b u = refl
  below-until name k v ks (x ∷ xs) b u = both_hold _ _ (ap is_lt (not-past name k x.0 b (less _ (both_first _ _ (both_first _ _ u))))) (below-until name k v ks xs b (both_second (below_all name_cmp x.0 ((k, v) ∷ ks)) _ u))

  -- of names that rise, those before one are below it
  pub below-from_under : (name : List ℕ) (v : V) (ys xs : List (List ℕ × V)) → are_under xs ((name, v) ∷ ys) ≡ true → are_below name xs ≡ true
  below-from_under name v ys [] u = refl
  below-from_under name v ys (x ∷ xs) u = both_hold _ _ (both_first _ _ (both_first _ _ u)) (below-from_under name v ys xs (both_second (below_all name_cmp x.0 ((name, v) ∷ ys)) _ u))

  -- one that doesn't leaves all before it below the name
  below-before : (name : List ℕ) (xs p ys : List (List ℕ × V)) → is_full p ≡ true → is_sorted name_cmp (xs ++ (p ++ ys)) ≡ true → begins_past name p ≡ false → are_below name xs ≡ true
  below-before name xs [] ys f s b = absurd (true≢false (sym f))
  below-before name xs (k ∷ ks) ys f s b = below-until name k.0 k.1 (ks ++ ys) xs b (sorted-under xs ((k ∷ ks) ++ ys) s)

  -- how far the search for a place is
  pub record IsSearched (name : List ℕ) (ls : List (List (List ℕ × V))) (low high : ℕ) : Type 0 where
    pub within : high ≤ length ls
    pub apart : 0 < length ls → low < high
    pub before : are_below name (flat (take low ls)) ≡ true
    pub behind : below_all name_cmp name (flat (drop high ls)) ≡ true

  module _ (name : List ℕ) (ls : List (List (List ℕ × V))) (parts : are_parts ls ≡ true) where
    pub search-start : IsSearched name ls 0 (length ls)
    search-start = record { within = omega arith; apart = λ h. h; before = refl; behind = ap (λ r. below_all name_cmp name (flat r)) (drop-all ls) }
      where
        drop-all : (ls : List (List (List ℕ × V))) → drop (length ls) ls ≡ []
        drop-all [] = refl
        drop-all (l ∷ ls) = drop-all ls

    module _ (low high mid : ℕ) (so_far : IsSearched name ls low high) (p : List (List ℕ × V)) (less_high : mid < high) (is : p ≡ get_or ls mid p) where
      inside : mid < length ls
      inside = let h = so_far.within in omega arith

      cut : flat ls ≡ flat (take mid ls) ++ (p ++ flat (drop (mid + 1) ls))
      cut = ap flat (split-at ls mid p inside is) ∙ flat-one (take mid ls) p (drop (mid + 1) ls)

      whole : is_sorted name_cmp (flat (take mid ls) ++ (p ++ flat (drop (mid + 1) ls))) ≡ true
      whole = ap (is_sorted name_cmp) (sym cut) ∙ both_second (are_full ls) _ parts

      full : is_full p ≡ true
      full = both_first _ _ (full-second (take mid ls) (p ∷ drop (mid + 1) ls) (ap are_full (sym (split-at ls mid p inside is)) ∙ both_first _ _ parts))

      pub search-down : low < mid → begins_past name p ≡ true → IsSearched name ls low mid
      search-down more b = record {
        within = let h = inside in omega arith;
        apart = λ h. more;
        before = so_far.before;
        behind = ap (λ r. below_all name_cmp name (flat r)) (drop_more ls mid p inside ∙ ap (λ q. q ∷ drop (mid + 1) ls) (sym is)) ∙ above-from name p (flat (drop (mid + 1) ls)) (sorted-second (flat (take mid ls)) _ whole) b;
      }

      pub search-up : begins_past name p ≡ false → IsSearched name ls mid high
      search-up b = record { within = so_far.within; apart = λ h. less_high; before = below-before name (flat (take mid ls)) p (flat (drop (mid + 1) ls)) full whole b; behind = so_far.behind }

    pub search-done : (low high : ℕ) → IsSearched name ls low high → high ≤ low + 1 → IsPlace name ls low
    search-done low high so_far near = record { within = λ h. let a = so_far.apart h in let w = so_far.within in omega arith; before = so_far.before; behind = by ls so_far.apart so_far.behind }
      where
        drop-none : (n : ℕ) → drop n (none V) ≡ none V
        drop-none zero = refl
        drop-none (suc n) = refl

        by : (ms : List (List (List ℕ × V))) → (0 < length ms → low < high) → below_all name_cmp name (flat (drop high ms)) ≡ true → below_all name_cmp name (flat (drop (low + 1) ms)) ≡ true
        by [] apart h = ap (λ r. below_all name_cmp name (flat r)) (drop-none (low + 1))
        by (m ∷ ms) apart h = let same : high ≡ low + 1 = (let a = apart (omega arith) in omega arith) in subst (λ (n : ℕ). below_all name_cmp name (flat (drop n (m ∷ ms))) ≡ true) same h
