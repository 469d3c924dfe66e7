-- Rows by names as a finite map: rows the other way round, what they give, and what they are with a row put.
use Rattle.std.specs.Prelude.{◌≡◌, ℕ, Bool, true, false, T, Some, None, List, [], ◌∷◌, ◌++◌, reverse, cond, refl}
use Rattle.std.specs.Ordering.{flip_args, eq_by_cmp, is_lt, is_eq}
use Rattle.std.specs.declared.cmp.Ordering.{Ordering}
use Rattle.std.specs.declared.cmp.Ordering.TheVariants.{Less, Equal, Greater}
use Rattle.std.specs.Cmp.{IsTotalOrder, back_total, eq_by_cmp_equiv}
use Rattle.std.specs.Cmp.Lexicographic.{nat_list_cmp_total}
use Rattle.std.specs.FinMap.{entries, get, insert, from_entries, entries_sorted, get-entries, get-from_entries, get-insert, same_map, slice_cmp-IsAntisymmetric, nat_cmp-IsAntisymmetric}
use Rattle.std.specs.FinMap.Entries.{find, put, find-put, find-append, below_all, is_sorted, is_sorted-put, same_entries}
use Rattle.std.proofs.Common.{ap, subst, sym, ◌∙◌, true≢false}
use Rattle.std.proofs.lemmas.Grind.{reverse_onto}
use Rattle.std.proofs.lemmas.List.{reverse-reverse}
use Rattle.paths.proofs.FrontLaws.{both_hold, both_first, both_second}
use Rattle.plans.specs.Sources.{name_cmp}
use Rattle.plans.specs.PrivateSorted.{falling}

pub holds : (b : Bool) → T b → b ≡ true
holds true h = refl
holds false h = absurd h

held : (b : Bool) → b ≡ true → T b
held b e = subst T (sym e) tt

falling_total : IsTotalOrder falling
falling_total = back_total nat_list_cmp_total

-- ---- rows the other way round

module _ {K X : Type 0} (R : K → K → Ordering) where
  pub below_push : (c : K) (xs : List (K × X)) (x : K × X) → below_all R c xs ≡ true → is_lt (R c x.0) ≡ true → below_all R c (xs ++ x ∷ []) ≡ true
  below_push c [] x h l = both_hold _ _ l refl
  below_push c (y ∷ ys) x h l = both_hold _ _ (both_first _ _ h) (below_push c ys x (both_second (is_lt (R c y.0)) _ h) l)

  below_reversed : (c : K) (xs : List (K × X)) → below_all R c xs ≡ true → below_all R c (reverse xs) ≡ true
  below_reversed c [] h = refl
  below_reversed c (x ∷ xs) h =
      ap (below_all R c) (reverse_onto xs x [])
      ∙ below_push c (reverse xs) x (below_reversed c xs (both_second (is_lt (R c x.0)) _ h)) (both_first _ _ h)

  sorted_push : (xs : List (K × X)) (x : K × X) → is_sorted (flip_args R) xs ≡ true → below_all R x.0 xs ≡ true → is_sorted (flip_args R) (xs ++ x ∷ []) ≡ true
  sorted_push [] x s h = refl
  sorted_push (y ∷ ys) x s h =
      both_hold _ _ (flipped y.0 ys (both_first _ _ s) (both_first _ _ h)) (sorted_push ys x (both_second (below_all (flip_args R) y.0 ys) _ s) (both_second (is_lt (R x.0 y.0)) _ h))
    where
      flipped : (c : K) (zs : List (K × X)) → below_all (flip_args R) c zs ≡ true → is_lt (R x.0 c) ≡ true → below_all (flip_args R) c (zs ++ x ∷ []) ≡ true
      flipped c [] g l = both_hold _ _ l refl
      flipped c (z ∷ zs) g l = both_hold _ _ (both_first _ _ g) (flipped c zs (both_second (is_lt (R z.0 c)) _ g) l)

  -- rows whose keys rise have keys that fall, the other way round
  pub sorted_reversed : (xs : List (K × X)) → is_sorted R xs ≡ true → is_sorted (flip_args R) (reverse xs) ≡ true
  sorted_reversed [] s = refl
  sorted_reversed (x ∷ xs) s =
      ap (is_sorted (flip_args R)) (reverse_onto xs x [])
      ∙ sorted_push (reverse xs) x (sorted_reversed xs (both_second (below_all R x.0 xs) _ s)) (below_reversed x.0 xs (both_first _ _ s))

  -- a key below all others is none of theirs
  pub unfound : (c : K) (xs : List (K × X)) → below_all R c xs ≡ true → find R c xs ≡ None
  unfound c [] h = refl
  unfound c (x ∷ xs) h = by (R c x.0) (both_first _ _ h) (unfound c xs (both_second (is_lt (R c x.0)) _ h))
    where
      by : (o : Ordering) → is_lt o ≡ true → find R c xs ≡ None → cond (is_eq o) (Some x.1) (find R c xs) ≡ None
      by Less l e = e
      by Equal l e = absurd (true≢false (sym l))
      by Greater l e = e

  -- the same is found in them
  pub find_reversed : IsTotalOrder R → (q : K) (xs : List (K × X)) → is_sorted R xs ≡ true → find R q (reverse xs) ≡ find R q xs
  find_reversed o q [] s = refl
  find_reversed o q (x ∷ xs) s =
      let rest : is_sorted R xs ≡ true = both_second (below_all R x.0 xs) _ s in
      ap (find R q) (reverse_onto xs x [])
      ∙ find-append R o (reverse xs) x.0 x.1 q (find_reversed o x.0 xs rest ∙ unfound x.0 xs (both_first _ _ s))
      ∙ ap (cond (eq_by_cmp R q x.0) (Some x.1)) (find_reversed o q xs rest)

-- ---- the map of rows whose names fall

module _ {X : Type 0} where
  pub find_falling : (q : List ℕ) (rows : List (List ℕ × X)) → find falling q rows ≡ find name_cmp q rows
  find_falling q [] = refl
  find_falling q (row ∷ rows) = λ i. cond ((eq_by_cmp_equiv nat_list_cmp_total).symm row.0 q i) (Some row.1) (find_falling q rows i)

  -- what is found in the rows is what the map has
  pub get_is : (rows : List (List ℕ × X)) (q : List ℕ) → get (from_entries {R = name_cmp} rows) q ≡ find falling q rows
  get_is rows q = get-from_entries nat_list_cmp_total rows q ∙ sym (find_falling q rows)

  -- to put a row is to insert into the map
  pub insert_is : (rows : List (List ℕ × X)) (name : List ℕ) (value : X) → from_entries {R = name_cmp} (put falling name value rows) ≡ insert (from_entries {R = name_cmp} rows) name value
  insert_is rows name value = same_map nat_list_cmp_total (slice_cmp-IsAntisymmetric nat_cmp-IsAntisymmetric) _ _ (λ q.
      get_is (put falling name value rows) q
      ∙ find-put falling falling_total q name value rows
      ∙ (λ i. cond ((eq_by_cmp_equiv nat_list_cmp_total).symm name q i) (Some value) (sym (get_is rows q) i))
      ∙ sym (get-insert nat_list_cmp_total (from_entries rows) name value q))

  -- and keeps the names falling
  pub put_falls : (rows : List (List ℕ × X)) (name : List ℕ) (value : X) → is_sorted falling rows ≡ true → is_sorted falling (put falling name value rows) ≡ true
  put_falls rows name value falls = holds _ (is_sorted-put falling falling_total name value rows (held _ falls))

  -- the rows are the entries of the map, the last first
  pub rows_are : (rows : List (List ℕ × X)) → is_sorted falling rows ≡ true → rows ≡ reverse (entries (from_entries {R = name_cmp} rows))
  rows_are rows falls =
      sym (reverse-reverse rows)
      ∙ ap reverse (sym (same_entries name_cmp nat_list_cmp_total (slice_cmp-IsAntisymmetric nat_cmp-IsAntisymmetric) _ (reverse rows) (entries_sorted (from_entries {R = name_cmp} rows)) (held _ (sorted_reversed falling rows falls)) (λ q.
      sym (get-entries (from_entries rows) q)
      ∙ get_is rows q
      ∙ sym (find_reversed falling falling_total q rows falls)
      ∙ find_falling q (reverse rows))))
