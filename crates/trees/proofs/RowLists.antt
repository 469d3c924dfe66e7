-- The rows of a node are its own and then those of its children, in the order of their names.
use Rattle.std.specs.Prelude.{◌≡◌, ℕ, Bool, true, false, ◌&&◌, not, cond, T, Option, Some, None, List, [], ◌∷◌, ◌++◌, is_some, option_and_then}
use Rattle.std.proofs.Common.{sym, ap, refl, ◌∙◌, subst, true≢false, append_assoc, append-nil}
use Rattle.std.specs.Option.{option_or}
use Rattle.std.specs.Ordering.{eq_by_cmp, is_lt, is_eq, ordering_then}
use Rattle.std.specs.declared.cmp.Ordering.{Ordering}
use Rattle.std.specs.declared.cmp.Ordering.TheVariants.{Less, Equal, Greater}
use Rattle.std.specs.Cmp.{tied_itself}
use Rattle.std.specs.Cmp.Lexicographic.{nat_list_cmp_total}
use Rattle.std.specs.List.Sorted.{IsStrictlySortedBy}
use Rattle.std.specs.Map.{keys_of, lookup}
use Rattle.std.specs.BTreeMap.{is_at}
use Rattle.std.specs.FinMap.{get, entries, entries_sorted, get-entries, find}
use Rattle.std.specs.FinMap.Entries.{is_sorted, below_all, same_entries}
use Rattle.paths.specs.OrderLaws.{path_cmp_total, path_cmp-IsAntisymmetric}
use Rattle.paths.specs.Order.{path_cmp}
use Rattle.paths.specs.Path.{IsClean}
use Rattle.trees.specs.declared.entry.Entry.{Entry}
use Rattle.paths.specs.Order.{name_cmp}
use Rattle.trees.specs.PrivateNode.{NodeValue, map_of, joined, below_name, node_of}
use Rattle.trees.specs.declared.lent_entry.LentEntry.{LentEntry}
use Rattle.trees.specs.Rows.{lent_rows, entry_of}
use Rattle.trees.specs.PrivateNode.{rows_under}
use Rattle.trees.specs.PrivateWalk.{rows_of}
use Rattle.paths.proofs.FrontLaws.{both_hold, both_first, both_second, name_same}
use Rattle.trees.proofs.NodeLaws.{get-map_of_root, get-map_of_cons, get-joined, get-joined_root, find-below_name, find-below_name_root, lookup-find}
use Rattle.trees.proofs.NodeSteps.{at_kid}
use Rattle.trees.proofs.KidLists.{sorted-from_keys}

less : (o : Ordering) → is_lt o ≡ true → o ≡ Less
less Less e = refl
less Equal e = absurd (true≢false (sym e))
less Greater e = absurd (true≢false (sym e))

-- ---- what is found in them

find-joined_lists : (q : List (List ℕ)) (xs ys : List (List (List ℕ) × Entry)) → find path_cmp q (xs ++ ys) ≡ option_or (find path_cmp q xs) (find path_cmp q ys)
find-joined_lists q [] ys = refl
find-joined_lists q (x ∷ xs) ys = ap (cond (eq_by_cmp path_cmp q x.0) (Some x.1)) (find-joined_lists q xs ys) ∙ out (eq_by_cmp path_cmp q x.0) x.1 (find path_cmp q xs) (find path_cmp q ys)
  where
    out : (b : Bool) (e : Entry) (o r : Option Entry) → cond b (Some e) (option_or o r) ≡ option_or (cond b (Some e) o) r
    out true e o r = refl
    out false e o r = refl

find-none : (c : List ℕ) (ks : List (List ℕ × NodeValue)) → below_all name_cmp c ks ≡ true → find name_cmp c ks ≡ None
find-none c [] h = refl
find-none c (k ∷ ks) h = ap (λ o. cond (is_eq o) (Some k.1) (find name_cmp c ks)) (less (name_cmp c k.0) (both_first _ _ h)) ∙ find-none c ks (both_second (is_lt (name_cmp c k.0)) _ h)

kid_or_rest : (tie : Bool) (mine rest : Option Entry) (f : NodeValue → Option Entry) (v : NodeValue) (r : Option NodeValue) → mine ≡ f v → rest ≡ option_and_then f r → (tie ≡ true → r ≡ None) → option_or (cond tie mine None) rest ≡ option_and_then f (cond tie (Some v) r)
kid_or_rest false mine rest f v r m e none = e
kid_or_rest true mine rest f v r m e none = ap (option_or mine) (e ∙ ap (option_and_then f) (none refl)) ∙ or_none mine ∙ m
  where
    or_none : (o : Option Entry) → option_or o None ≡ o
    or_none None = refl
    or_none (Some x) = refl

find-rows : (kids : List (List ℕ × NodeValue)) → is_sorted name_cmp kids ≡ true → (c : List ℕ) (cs : List (List ℕ)) → find path_cmp (c ∷ cs) (rows_of kids) ≡ at_kid (find name_cmp c kids) cs
find-rows [] s c cs = refl
find-rows (k ∷ ks) s c cs =
    find-joined_lists (c ∷ cs) (below_name k.0 (entries (map_of k.1))) (rows_of ks)
    ∙ ap (λ o. option_or o (find path_cmp (c ∷ cs) (rows_of ks))) (find-below_name k.0 c cs (entries (map_of k.1)))
    ∙ kid_or_rest (eq_by_cmp name_cmp c k.0) (find path_cmp cs (entries (map_of k.1))) (find path_cmp (c ∷ cs) (rows_of ks)) (λ v. get (map_of v) cs) k.1 (find name_cmp c ks)
    (sym (get-entries (map_of k.1) cs)) (find-rows ks (both_second (below_all name_cmp k.0 ks) _ s) c cs)
    (λ tie. find-none c ks (ap (λ x. below_all name_cmp x ks) (name_same c k.0 tie) ∙ both_first _ _ s))

-- ---- their order

below-child : (k : List ℕ) (p : List (List ℕ)) (rows : List (List (List ℕ) × Entry)) → below_all path_cmp (k ∷ p) (below_name k rows) ≡ below_all path_cmp p rows
below-child k p [] = refl
below-child k p (row ∷ rows) = λ i. is_lt (ordering_then (tied_itself nat_list_cmp_total k i) (path_cmp p row.0)) && below-child k p rows i

sorted-child : (k : List ℕ) (rows : List (List (List ℕ) × Entry)) → is_sorted path_cmp (below_name k rows) ≡ is_sorted path_cmp rows
sorted-child k [] = refl
sorted-child k (row ∷ rows) = λ i. below-child k row.0 rows i && sorted-child k rows i

below-other : (c k : List ℕ) (p : List (List ℕ)) (rows : List (List (List ℕ) × Entry)) → name_cmp c k ≡ Less → below_all path_cmp (c ∷ p) (below_name k rows) ≡ true
below-other c k p [] l = refl
below-other c k p (row ∷ rows) l = both_hold _ _ (ap (λ o. is_lt (ordering_then o (path_cmp p row.0))) l) (below-other c k p rows l)

below-append : (q : List (List ℕ)) (xs ys : List (List (List ℕ) × Entry)) → below_all path_cmp q xs ≡ true → below_all path_cmp q ys ≡ true → below_all path_cmp q (xs ++ ys) ≡ true
below-append q [] ys h g = g
below-append q (x ∷ xs) ys h g = both_hold _ _ (both_first _ _ h) (below-append q xs ys (both_second (is_lt (path_cmp q x.0)) _ h) g)

below-rows : (c : List ℕ) (p : List (List ℕ)) (ks : List (List ℕ × NodeValue)) → below_all name_cmp c ks ≡ true → below_all path_cmp (c ∷ p) (rows_of ks) ≡ true
below-rows c p [] h = refl
below-rows c p (k ∷ ks) h =
    below-append (c ∷ p) (below_name k.0 (entries (map_of k.1))) (rows_of ks) (below-other c k.0 p (entries (map_of k.1)) (less _ (both_first _ _ h))) (below-rows c p ks (both_second (is_lt (name_cmp c k.0)) _ h))

sorted-append : (k : List ℕ) (xs ys : List (List (List ℕ) × Entry)) → is_sorted path_cmp (below_name k xs) ≡ true → is_sorted path_cmp ys ≡ true → ((p : List (List ℕ)) → below_all path_cmp (k ∷ p) ys ≡ true) → is_sorted path_cmp (below_name k xs ++ ys) ≡ true
sorted-append k [] ys s t low = t
sorted-append k (x ∷ xs) ys s t low =
    both_hold _ _ (below-append (k ∷ x.0) (below_name k xs) ys (both_first _ _ s) (low x.0)) (sorted-append k xs ys (both_second (below_all path_cmp (k ∷ x.0) (below_name k xs)) _ s) t low)

is-true : (b : Bool) → T b → b ≡ true
is-true true h = refl
is-true false h = absurd h

holds : (b : Bool) → b ≡ true → T b
holds b e = subst T (sym e) tt

sorted-rows : (kids : List (List ℕ × NodeValue)) → is_sorted name_cmp kids ≡ true → is_sorted path_cmp (rows_of kids) ≡ true
sorted-rows [] s = refl
sorted-rows (k ∷ ks) s =
    sorted-append k.0 (entries (map_of k.1)) (rows_of ks) (sorted-child k.0 (entries (map_of k.1)) ∙ is-true _ (entries_sorted (map_of k.1))) (sorted-rows ks (both_second (below_all name_cmp k.0 ks) _ s)) (λ p. below-rows k.0 p ks (both_first _ _ s))

-- the entries below a node are those of its children
pub entries-kids : (kids : List (List ℕ × NodeValue)) → IsStrictlySortedBy name_cmp (keys_of kids) → entries (joined kids) ≡ rows_of kids
entries-kids kids ordered = same_entries path_cmp path_cmp_total path_cmp-IsAntisymmetric (entries (joined kids)) (rows_of kids) (entries_sorted (joined kids)) (holds _ (sorted-rows kids (sorted-from_keys kids ordered))) found
  where
    none : (ks : List (List ℕ × NodeValue)) → find path_cmp [] (rows_of ks) ≡ None
    none [] = refl
    none (k ∷ ks) = find-joined_lists [] (below_name k.0 (entries (map_of k.1))) (rows_of ks) ∙ (λ i. option_or (find-below_name_root k.0 (entries (map_of k.1)) i) (none ks i))

    found : (q : List (List ℕ)) → find path_cmp q (entries (joined kids)) ≡ find path_cmp q (rows_of kids)
    found [] = sym (get-entries (joined kids) []) ∙ get-joined_root kids ∙ sym (none kids)
    found (c ∷ cs) = sym (get-entries (joined kids) (c ∷ cs)) ∙ get-joined kids c cs ∙ sym (find-rows kids (sorted-from_keys kids ordered) c cs)

root-first : (rows : List (List (List ℕ) × Entry)) → find path_cmp [] rows ≡ None → below_all path_cmp [] rows ≡ true
root-first [] h = refl
root-first (([], e) ∷ rows) h = absurd (true≢false (ap is_some h))
root-first ((c ∷ cs, e) ∷ rows) h = root-first rows h

-- the entries of a node are its own and those below it
pub entries-node : (value : NodeValue) (top : Entry) (kids : List (List ℕ × NodeValue)) → node_of top kids ≡ value → entries (map_of value) ≡ ([], top) ∷ entries (joined kids)
entries-node value top kids is =
    ap (λ v. entries (map_of v)) (sym is)
    ∙ same_entries path_cmp path_cmp_total path_cmp-IsAntisymmetric (entries (map_of (node_of top kids))) (([], top) ∷ entries (joined kids)) (entries_sorted (map_of (node_of top kids)))
    (holds _ (both_hold _ _ (root-first (entries (joined kids)) (sym (get-entries (joined kids) []) ∙ get-joined_root kids)) (is-true _ (entries_sorted (joined kids))))) found
  where
    found : (q : List (List ℕ)) → find path_cmp q (entries (map_of (node_of top kids))) ≡ find path_cmp q (([], top) ∷ entries (joined kids))
    found [] = sym (get-entries (map_of (node_of top kids)) []) ∙ get-map_of_root (node_of top kids)
    found (c ∷ cs) = sym (get-entries (map_of (node_of top kids)) (c ∷ cs)) ∙ get-map_of_cons (node_of top kids) c cs ∙ get-entries (joined kids) (c ∷ cs)

-- ---- the steps of the code

not_true : (b : Bool) → not b ≡ true → b ≡ false
not_true true e = sym e
not_true false e = refl

-- what stands below a name is what its child has
pub kid-there : (kids : List (List ℕ × NodeValue)) (name : List ℕ) (kid : NodeValue) → lookup (is_at (name_cmp name)) kids ≡ Some kid → (q : List (List ℕ)) → get (joined kids) (name ∷ q) ≡ get (map_of kid) q
kid-there kids name kid has q = get-joined kids name q ∙ ap (λ o. at_kid o q) (sym (lookup-find name kids) ∙ has)

-- so the path of each child is clean where the paths below the node are
pub child-clean : (kids : List (List ℕ × NodeValue)) (name : List ℕ) (kid : NodeValue) (at : List (List ℕ)) → lookup (is_at (name_cmp name)) kids ≡ Some kid
    → ((q : List (List ℕ)) → is_some (get (joined kids) q) ≡ true → IsClean (at ++ q)) → IsClean (at ++ name ∷ [])
child-clean kids name kid at has clean = clean (name ∷ []) (ap is_some (kid-there kids name kid has [] ∙ get-map_of_root kid))

-- and all paths below it
pub below-clean : (kids : List (List ℕ × NodeValue)) (name : List ℕ) (kid : NodeValue) (at below : List (List ℕ)) → lookup (is_at (name_cmp name)) kids ≡ Some kid → below ≡ at ++ name ∷ []
    → ((q : List (List ℕ)) → is_some (get (joined kids) q) ≡ true → IsClean (at ++ q)) → (q : List (List ℕ)) → is_some (get (map_of kid) q) ≡ true → IsClean (below ++ q)
below-clean kids name kid at below has same clean q s =
    subst IsClean (sym (append_assoc at (name ∷ []) q) ∙ ap (λ x. x ++ q) (sym same)) (clean (name ∷ q) (ap is_some (kid-there kids name kid has q) ∙ s))

-- the rows of a node whose children are lent
pub kids-rows : (value : NodeValue) (kids its : List (List ℕ × NodeValue)) → node_of value.top kids ≡ value → its ≡ kids → IsStrictlySortedBy name_cmp (keys_of kids) → entries (map_of value) ≡ ([], value.top) ∷ rows_of its
kids-rows value kids its is lent ordered = entries-node value value.top kids is ∙ ap (λ (rows : List (List (List ℕ) × Entry)). ([], value.top) ∷ rows) (entries-kids kids ordered ∙ ap rows_of (sym lent))

-- what is clean at and below a node is so below it
pub kids-clean : {P : List (List ℕ) → Type 0} (value : NodeValue) (top : Entry) (kids : List (List ℕ × NodeValue)) → node_of top kids ≡ value → ((q : List (List ℕ)) → is_some (get (map_of value) q) ≡ true → P q) → (q : List (List ℕ)) → is_some (get (joined kids) q) ≡ true → P q
kids-clean value top kids is clean [] s = absurd (true≢false (sym s ∙ ap is_some (get-joined_root kids)))
kids-clean value top kids is clean (c ∷ cs) s = clean (c ∷ cs) ((λ i. is_some (get (map_of (sym is i)) (c ∷ cs))) ∙ ap is_some (get-map_of_cons (node_of top kids) c cs) ∙ s)

rows_under-append : (at : List (List ℕ)) (xs ys : List (List (List ℕ) × Entry)) → rows_under at (xs ++ ys) ≡ rows_under at xs ++ rows_under at ys
rows_under-append at [] ys = refl
rows_under-append at (x ∷ xs) ys = ap (λ r. (at ++ x.0, x.1) ∷ r) (rows_under-append at xs ys)

rows_under-child : (at : List (List ℕ)) (name : List ℕ) (rows : List (List (List ℕ) × Entry)) → rows_under at (below_name name rows) ≡ rows_under (at ++ name ∷ []) rows
rows_under-child at name [] = refl
rows_under-child at name (row ∷ rows) = λ i. (sym (append_assoc at (name ∷ []) row.0) i, row.1) ∷ rows_under-child at name rows i

-- one child's rows more
pub rows-step : (at below : List (List ℕ)) (name : List ℕ) (kid : NodeValue) (its rest : List (List ℕ × NodeValue)) (before after all : List (List (List ℕ) × Entry)) → before ++ rows_under at (rows_of its) ≡ all → its ≡ (name, kid) ∷ rest → below ≡ at ++ name ∷ [] → after ≡ before ++ rows_under below (entries (map_of kid)) → after ++ rows_under at (rows_of rest) ≡ all
rows-step at below name kid its rest before after all so_far next same more =
    ap (λ r. r ++ rows_under at (rows_of rest)) (more ∙ ap (λ b. before ++ rows_under b (entries (map_of kid))) same ∙ ap (λ r. before ++ r) (sym (rows_under-child at name (entries (map_of kid)))))
    ∙ append_assoc before (rows_under at (below_name name (entries (map_of kid)))) (rows_under at (rows_of rest))
    ∙ ap (λ r. before ++ r) (sym (rows_under-append at (below_name name (entries (map_of kid))) (rows_of rest)) ∙ ap (λ ks. rows_under at (rows_of ks)) (sym next))
    ∙ so_far

lent_rows-append : (xs ys : List (List (List ℕ) × LentEntry)) → lent_rows (xs ++ ys) ≡ lent_rows xs ++ lent_rows ys
lent_rows-append [] ys = refl
lent_rows-append (x ∷ xs) ys = ap (λ r. (x.0, entry_of x.1) ∷ r) (lent_rows-append xs ys)

-- all rows below a node
pub rows-all : (kids its : List (List ℕ × NodeValue)) (at : List (List ℕ)) (old rows : List (List (List ℕ) × Entry)) → IsStrictlySortedBy name_cmp (keys_of kids) → its ≡ kids → rows ++ rows_under at (rows_of []) ≡ old ++ rows_under at (rows_of its)
    → rows ≡ old ++ rows_under at (entries (joined kids))
rows-all kids its at old rows ordered lent done =
    sym (append-nil rows) ∙ done ∙ (λ i. old ++ rows_under at (rows_of (lent i))) ∙ ap (λ r. old ++ rows_under at r) (sym (entries-kids kids ordered))

-- and with the node's own before them
pub rows-node : (value : NodeValue) (top : Entry) (kids : List (List ℕ × NodeValue)) (at own : List (List ℕ)) (entry : LentEntry) (old first : List (List (List ℕ) × LentEntry)) (rows : List (List (List ℕ) × Entry)) → node_of top kids ≡ value
    → entry_of entry ≡ top → own ≡ at → first ≡ old ++ (own, entry) ∷ [] → rows ≡ lent_rows first ++ rows_under at (entries (joined kids)) → rows ≡ lent_rows old ++ rows_under at (entries (map_of value))
rows-node value top kids at own entry old first rows is e o f done =
    done
    ∙ (λ i. lent_rows (f i) ++ rows_under at (entries (joined kids)))
    ∙ ap (λ r. r ++ rows_under at (entries (joined kids))) (lent_rows-append old ((own, entry) ∷ []))
    ∙ append_assoc (lent_rows old) ((own, entry_of entry) ∷ []) (rows_under at (entries (joined kids)))
    ∙ (λ i. lent_rows old ++ ((o ∙ sym (append-nil at)) i, e i) ∷ rows_under at (entries (joined kids)))
    ∙ ap (λ r. lent_rows old ++ rows_under at r) (sym (entries-node value top kids is))

pub rows_under-root : (rows : List (List (List ℕ) × Entry)) → rows_under [] rows ≡ rows
rows_under-root [] = refl
rows_under-root (row ∷ rows) = ap (λ r. row ∷ r) (rows_under-root rows)
