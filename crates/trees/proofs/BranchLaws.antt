-- What the entries of a tree and of a branch are, where it is known what stands at each path.
use Rattle.std.specs.Prelude.{◌≡◌, ℕ, Bool, true, false, cond, T, Option, Some, None, List, [], ◌∷◌, ◌++◌, is_some, nat_eq}
use Rattle.std.proofs.Common.{sym, ap, refl, ◌∙◌, subst, true≢false}
use Rattle.std.proofs.lemmas.Option.{same_Some, none-some}
use Rattle.std.specs.List.{AllByRecursion}
use Rattle.std.specs.Ordering.{eq_by_cmp, is_eq, is_lt, ordering_then}
use Rattle.std.specs.Cmp.{tied_itself}
use Rattle.std.specs.Cmp.Lexicographic.{nat_list_cmp_total, pointwise, texts_ties}
use Rattle.std.specs.FinMap.{get, entries, entries_sorted, get-entries, find}
use Rattle.std.specs.FinMap.Entries.{is_sorted, below_all, same_entries}
use Rattle.paths.specs.OrderLaws.{path_cmp_total, path_cmp-IsAntisymmetric}
use Rattle.paths.specs.Order.{path_cmp}
use Rattle.paths.specs.Path.{IsClean}
use Rattle.paths.proofs.FrontLaws.{both_hold, both_first, both_second, name_same}
use Rattle.trees.specs.declared.entry.Entry.{Entry}
use Rattle.trees.specs.TreeMap.{TreeMap, IsTree}
use Rattle.trees.specs.Subtree.{path_below, with_entry, entries_below}
use Rattle.trees.proofs.SubtreeLaws.{find-below}

is-true : (b : Bool) → T b → b ≡ true
is-true true h = refl
is-true false h = absurd h

holds : (b : Bool) → b ≡ true → T b
holds b e = subst T (sym e) tt

-- ---- all entries of a tree

-- what holds of each path at which something is found holds of each path in a list
pub found-all : (P : List (List ℕ) → Type 0) (rows : List (List (List ℕ) × Entry)) → ((q : List (List ℕ)) → is_some (find path_cmp q rows) ≡ true → P q) → AllByRecursion (λ row. P row.0) rows
found-all P [] h = tt
found-all P (row ∷ rows) h = (h row.0 (here row rows), found-all P rows (λ q s. h q (later q row rows s)))
  where
    here : (row : List (List ℕ) × Entry) (rows : List (List (List ℕ) × Entry)) → is_some (find path_cmp row.0 (row ∷ rows)) ≡ true
    here row rows = ap (λ o. is_some (cond (is_eq o) (Some row.1) (find path_cmp row.0 rows))) (tied_itself path_cmp_total row.0)

    found : (tie : Bool) (entry : Entry) (o : Option Entry) → is_some o ≡ true → is_some (cond tie (Some entry) o) ≡ true
    found true entry o s = refl
    found false entry o s = s

    later : (q : List (List ℕ)) (row : List (List ℕ) × Entry) (rows : List (List (List ℕ) × Entry)) → is_some (find path_cmp q rows) ≡ true → is_some (find path_cmp q (row ∷ rows)) ≡ true
    later q row rows s = found (eq_by_cmp path_cmp q row.0) row.1 (find path_cmp q rows) s

-- each row of a tree has a clean path
pub clean-rows : (tree : TreeMap) → IsTree tree → AllByRecursion (λ row. IsClean row.0) (entries tree)
clean-rows tree h = found-all IsClean (entries tree) (λ q s. h.clean q (ap is_some (get-entries tree q) ∙ s))

-- ---- the entries of a child

-- a path that lies below another one is that one and the rest
pub path_below-is : (top path rest : List (List ℕ)) → path_below top path ≡ Some rest → path ≡ top ++ rest
path_below-is [] path rest e = same_Some path rest e
path_below-is (d ∷ ds) [] rest e = absurd (none-some rest e)
path_below-is (d ∷ ds) (c ∷ cs) rest e = by (pointwise nat_eq d c) refl e (path_below-is ds cs rest)
  where
    by : (same : Bool) → pointwise nat_eq d c ≡ same → cond same (path_below ds cs) None ≡ Some rest → (path_below ds cs ≡ Some rest → cs ≡ ds ++ rest) → c ∷ cs ≡ d ∷ (ds ++ rest)
    by true is e more = λ i. sym (name_same d c (sym (texts_ties d c) ∙ is)) i ∷ more e i
    by false is e more = absurd (none-some rest e)

path_cmp-below : (top p q : List (List ℕ)) → path_cmp (top ++ p) (top ++ q) ≡ path_cmp p q
path_cmp-below [] p q = refl
path_cmp-below (d ∷ ds) p q = ap (λ o. ordering_then o (path_cmp (ds ++ p) (ds ++ q))) (tied_itself nat_list_cmp_total d) ∙ path_cmp-below ds p q

below-kept : (top p : List (List ℕ)) (rows : List (List (List ℕ) × Entry)) → below_all path_cmp (top ++ p) rows ≡ true → below_all path_cmp p (entries_below top rows) ≡ true
below-kept top p [] h = refl
below-kept top p (row ∷ rows) h =
    kept (path_below top row.0) refl (both_first _ _ h) (below-kept top p rows (both_second (is_lt (path_cmp (top ++ p) row.0)) _ h))
  where
    kept : (path : Option (List (List ℕ))) → path_below top row.0 ≡ path → is_lt (path_cmp (top ++ p) row.0) ≡ true → below_all path_cmp p (entries_below top rows) ≡ true
        → below_all path_cmp p (with_entry path row.1 (entries_below top rows)) ≡ true
    kept None is less rest = rest
    kept (Some q) is less rest =
        both_hold _ _ (ap is_lt (sym (path_cmp-below top p q) ∙ ap (path_cmp (top ++ p)) (sym (path_below-is top row.0 q is))) ∙ less) rest

-- what lies below a path stays in path order
pub sorted-below : (top : List (List ℕ)) (rows : List (List (List ℕ) × Entry)) → is_sorted path_cmp rows ≡ true → is_sorted path_cmp (entries_below top rows) ≡ true
sorted-below top [] h = refl
sorted-below top (row ∷ rows) h =
    kept (path_below top row.0) refl (both_first _ _ h) (sorted-below top rows (both_second (below_all path_cmp row.0 rows) _ h))
  where
    kept : (path : Option (List (List ℕ))) → path_below top row.0 ≡ path → below_all path_cmp row.0 rows ≡ true → is_sorted path_cmp (entries_below top rows) ≡ true
        → is_sorted path_cmp (with_entry path row.1 (entries_below top rows)) ≡ true
    kept None is first rest = rest
    kept (Some q) is first rest = both_hold _ _ (below-kept top q rows (ap (λ p. below_all path_cmp p rows) (sym (path_below-is top row.0 q is)) ∙ first)) rest

same-rows : (rows others : List (List (List ℕ) × Entry)) → is_sorted path_cmp rows ≡ true → is_sorted path_cmp others ≡ true → ((q : List (List ℕ)) → find path_cmp q rows ≡ find path_cmp q others) → rows ≡ others
same-rows rows others one other same = same_entries path_cmp path_cmp_total path_cmp-IsAntisymmetric rows others (holds _ one) (holds _ other) same

-- the entries of a child are those below its name
pub entries-child : (branch child : TreeMap) (name : List ℕ) → ((rest : List (List ℕ)) → get branch (name ∷ rest) ≡ get child rest) → entries child ≡ entries_below (name ∷ []) (entries branch)
entries-child branch child name at =
    same-rows (entries child) (entries_below (name ∷ []) (entries branch)) (is-true _ (entries_sorted child)) (sorted-below (name ∷ []) (entries branch) (is-true _ (entries_sorted branch)))
    (λ q. sym (get-entries child q) ∙ sym (at q) ∙ get-entries branch (name ∷ q) ∙ sym (find-below (name ∷ []) q (entries branch)))

-- and where there is no child, none is below its name
pub entries-no_child : (branch : TreeMap) (name : List ℕ) → ((rest : List (List ℕ)) → get branch (name ∷ rest) ≡ None) → entries_below (name ∷ []) (entries branch) ≡ []
entries-no_child branch name none =
    same-rows (entries_below (name ∷ []) (entries branch)) [] (sorted-below (name ∷ []) (entries branch) (is-true _ (entries_sorted branch))) refl
    (λ q. find-below (name ∷ []) q (entries branch) ∙ sym (get-entries branch (name ∷ q)) ∙ none q)

-- ---- the entry of a branch's own

none-above : (c : List ℕ) (cs : List (List ℕ)) (rows : List (List (List ℕ) × Entry)) → below_all path_cmp (c ∷ cs) rows ≡ true → find path_cmp [] rows ≡ None
none-above c cs [] h = refl
none-above c cs (([], entry) ∷ rows) h = absurd (true≢false (sym h))
none-above c cs ((d ∷ ds, entry) ∷ rows) h = none-above c cs rows (both_second (is_lt (path_cmp (c ∷ cs) (d ∷ ds))) _ h)

-- rows of which the first is this one, and all others lie below
pub record IsFirst (own : Entry) (rows : List (List (List ℕ) × Entry)) : Type 0 where
  pub below : List (List (List ℕ) × Entry)
  pub whole : rows ≡ ([], own) ∷ below
  pub lower : below_all path_cmp [] below ≡ true

first-of : (own : Entry) (rows : List (List (List ℕ) × Entry)) → is_sorted path_cmp rows ≡ true → find path_cmp [] rows ≡ Some own → IsFirst own rows
first-of own [] sorted found = absurd (none-some own found)
first-of own (([], entry) ∷ rows) sorted found = record {
  below = rows;
  whole = ap (λ first. ([], first) ∷ rows) (same_Some entry own found);
  lower = both_first _ _ sorted;
}
first-of own ((c ∷ cs, entry) ∷ rows) sorted found = absurd (none-some own (sym (none-above c cs rows (both_first _ _ sorted)) ∙ found))

-- the first of a branch's entries is its own
pub own-first : (branch : TreeMap) (own : Entry) → get branch [] ≡ Some own → IsFirst own (entries branch)
own-first branch own is = first-of own (entries branch) (is-true _ (entries_sorted branch)) (sym (get-entries branch []) ∙ is)
