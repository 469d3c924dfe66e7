-- The children of a node as the list of their names and maps, in the order of the names.
use Rattle.std.specs.Prelude.{◌≡◌, ℕ, Bool, true, false, ◌&&◌, cond, T, IsTrue, Option, Some, None, ◌↔◌, List, [], ◌∷◌, ◌++◌, is_some, option_and_then, option_map}
use Rattle.std.proofs.Common.{sym, ap, refl, ◌∙◌, subst, true≢false, append_assoc, unwrap_or}
use Rattle.std.specs.Ordering.{eq_by_cmp, is_lt}
use Rattle.std.specs.declared.cmp.Ordering.TheVariants.{Less}
use Rattle.std.specs.Cmp.Lexicographic.{nat_list_cmp_total}
use Rattle.std.specs.List.{AllByRecursion}
use Rattle.std.specs.List.Sorted.{IsStrictlySortedBy}
use Rattle.std.specs.Map.{keys_of, lookup}
use Rattle.std.specs.Option.{option_or}
use Rattle.std.specs.BTreeMap.{is_at}
use Rattle.std.proofs.lemmas.Option.{same_Some}
use Rattle.std.specs.FinMap.{get, find, insert, slice_cmp-IsAntisymmetric, nat_cmp-IsAntisymmetric}
use Rattle.std.specs.FinMap.Entries.{is_sorted, below_all, same_entries}
use Rattle.trees.specs.declared.entry.Entry.{Entry}
use Rattle.paths.specs.Order.{name_cmp}
use Rattle.trees.specs.TreeMap.{TreeMap}
use Rattle.trees.specs.PrivateNode.{NodeValue, map_of, kid_maps, joined, node_of}
use Rattle.trees.proofs.TreeLaws.{same_tree}
use Rattle.paths.proofs.FrontLaws.{both_hold, both_first, both_second, name_itself}
use Rattle.trees.proofs.PartLists.{less, find-append, not-below, below-from_under, sorted-under}
use Rattle.trees.proofs.NodeLaws.{get-map_of_root, get-map_of_cons, get-joined, get-joined_root, lookup-find}

find-kid_maps : (q : List ℕ) (kids : List (List ℕ × NodeValue)) → find name_cmp q (kid_maps kids) ≡ option_map map_of (find name_cmp q kids)
find-kid_maps q [] = refl
find-kid_maps q (kid ∷ kids) = ap (cond (eq_by_cmp name_cmp q kid.0) (Some (map_of kid.1))) (find-kid_maps q kids) ∙ pushed (eq_by_cmp name_cmp q kid.0) kid.1 (find name_cmp q kids)
  where
    pushed : (b : Bool) (v : NodeValue) (o : Option NodeValue) → cond b (Some (map_of v)) (option_map map_of o) ≡ option_map map_of (cond b (Some v) o)
    pushed true v o = refl
    pushed false v o = refl

-- what stands below a node, by its children's maps
seen : List (List ℕ × TreeMap) → List (List ℕ) → Option Entry
seen maps [] = None
seen maps (c ∷ cs) = option_and_then (λ m. get m cs) (find name_cmp c maps)

seen-joined : (kids : List (List ℕ × NodeValue)) (q : List (List ℕ)) → get (joined kids) q ≡ seen (kid_maps kids) q
unfolding seen
seen-joined kids [] = get-joined_root kids
seen-joined kids (c ∷ cs) = get-joined kids c cs ∙ through (find name_cmp c kids) ∙ ap (option_and_then (λ m. get m cs)) (sym (find-kid_maps c kids))
  where
    through : (o : Option NodeValue) → option_and_then (λ v. get (map_of v) cs) o ≡ option_and_then (λ m. get m cs) (option_map map_of o)
    through None = refl
    through (Some v) = refl

-- children that are the same stand for the same map
pub joined-from_same : (kids others : List (List ℕ × NodeValue)) → kid_maps kids ≡ kid_maps others → joined kids ≡ joined others
joined-from_same kids others same = same_tree _ _ (λ q. seen-joined kids q ∙ ap (λ maps. seen maps q) same ∙ sym (seen-joined others q))

kid-same : (a b : Option NodeValue) → ((cs : List (List ℕ)) → option_and_then (λ v. get (map_of v) cs) a ≡ option_and_then (λ v. get (map_of v) cs) b) → option_map map_of a ≡ option_map map_of b
kid-same None None at = refl
kid-same (Some v) None at = absurd (true≢false (ap is_some (sym (get-map_of_root v) ∙ at [])))
kid-same None (Some w) at = absurd (true≢false (ap is_some (sym (get-map_of_root w) ∙ sym (at []))))
kid-same (Some v) (Some w) at = ap Some (same_tree _ _ at)

pub is_sorted-kid_maps : (kids : List (List ℕ × NodeValue)) → is_sorted name_cmp (kid_maps kids) ≡ is_sorted name_cmp kids
is_sorted-kid_maps [] = refl
is_sorted-kid_maps (kid ∷ kids) = λ i. below kid.0 kids i && is_sorted-kid_maps kids i
  where
    below : (c : List ℕ) (ks : List (List ℕ × NodeValue)) → below_all name_cmp c (kid_maps ks) ≡ below_all name_cmp c ks
    below c [] = refl
    below c (k ∷ ks) = ap (λ b. is_lt (name_cmp c k.0) && b) (below c ks)

-- and the same map has the same children
pub same-from_joined : (kids others : List (List ℕ × NodeValue)) → is_sorted name_cmp kids ≡ true → is_sorted name_cmp others ≡ true → joined kids ≡ joined others → kid_maps kids ≡ kid_maps others
same-from_joined kids others s t same =
    same_entries name_cmp nat_list_cmp_total (slice_cmp-IsAntisymmetric nat_cmp-IsAntisymmetric) (kid_maps kids) (kid_maps others)
    (holds _ (is_sorted-kid_maps kids ∙ s)) (holds _ (is_sorted-kid_maps others ∙ t))
    (λ q. find-kid_maps q kids ∙ kid-same (find name_cmp q kids) (find name_cmp q others) (λ cs. sym (get-joined kids q cs) ∙ ap (λ m. get m (q ∷ cs)) same ∙ get-joined others q cs) ∙ sym (find-kid_maps q others))
  where
    holds : (b : Bool) → b ≡ true → T b
    holds b e = subst T (sym e) tt

-- ---- keys in order

below-from_all : (c : List ℕ) (ks : List (List ℕ × NodeValue)) → AllByRecursion (λ y. name_cmp c y ≡ Less) (keys_of ks) → below_all name_cmp c ks ≡ true
below-from_all c [] h = refl
below-from_all c (k ∷ ks) h = both_hold _ _ (ap is_lt h.0) (below-from_all c ks h.1)

-- the keys of a map of children strictly rise
pub sorted-from_keys : (ks : List (List ℕ × NodeValue)) → IsStrictlySortedBy name_cmp (keys_of ks) → is_sorted name_cmp ks ≡ true
unfolding IsStrictlySortedBy
sorted-from_keys [] h = refl
sorted-from_keys (k ∷ ks) h = both_hold _ _ (below-from_all k.0 ks h.0) (sorted-from_keys ks h.1)

all-from_below : (c : List ℕ) (ks : List (List ℕ × NodeValue)) → below_all name_cmp c ks ≡ true → AllByRecursion (λ y. name_cmp c y ≡ Less) (keys_of ks)
all-from_below c [] h = tt
all-from_below c (k ∷ ks) h = (less (name_cmp c k.0) (both_first _ _ h), all-from_below c ks (both_second (is_lt (name_cmp c k.0)) _ h))

-- and the other way
pub keys-from_sorted : (ks : List (List ℕ × NodeValue)) → is_sorted name_cmp ks ≡ true → IsStrictlySortedBy name_cmp (keys_of ks)
unfolding IsStrictlySortedBy
keys-from_sorted [] h = tt
keys-from_sorted (k ∷ ks) h = (all-from_below k.0 ks (both_first _ _ h), keys-from_sorted ks (both_second (below_all name_cmp k.0 ks) _ h))

-- ---- the same node

own-same : (a b : Entry) → Some a ≡ Some b → a ≡ b
own-same a b e = ap (λ o. unwrap_or o a) e

-- nodes with the same entry stand for the same map where the same stands below them
node-same : (v w : NodeValue) (top top' : Entry) (kids others : List (List ℕ × NodeValue)) → node_of top kids ≡ v → node_of top' others ≡ w → top ≡ top' → (map_of v ≡ map_of w) ↔ (joined kids ≡ joined others)
node-same v w top top' kids others v-is w-is tops = (
  λ same. same_tree _ _ (λ q. below_same q ((λ i. map_of (v-is i)) ∙ same ∙ (λ i. map_of (sym w-is i)))),
  λ below. (λ i. map_of (sym v-is i)) ∙ (λ i. insert (below i) [] (tops i)) ∙ (λ i. map_of (w-is i)),
)
  where
    below_same : (q : List (List ℕ)) → map_of (node_of top kids) ≡ map_of (node_of top' others) → get (joined kids) q ≡ get (joined others) q
    below_same [] same = get-joined_root kids ∙ sym (get-joined_root others)
    below_same (c ∷ cs) same = sym (get-map_of_cons (node_of top kids) c cs) ∙ ap (λ m. get m (c ∷ cs)) same ∙ get-map_of_cons (node_of top' others) c cs

-- what two comparisons say of two nodes
pub same-both : (v w : NodeValue) (top top' : Entry) (kids others : List (List ℕ × NodeValue)) (told : Bool) → node_of top kids ≡ v → node_of top' others ≡ w → top ≡ top' → IsTrue told ↔ (joined kids ≡ joined others) → IsTrue told ↔ (map_of v ≡ map_of w)
same-both v w top top' kids others told v-is w-is tops says =
    let h = node-same v w top top' kids others v-is w-is tops in (λ t. h.1 (says.0 t), λ e. says.1 (h.0 e))

-- nodes that stand for the same map have the same entry
pub tops-same : (v w : NodeValue) → map_of v ≡ map_of w → v.top ≡ w.top
tops-same v w same = same_Some v.top w.top (sym (get-map_of_root v) ∙ ap (λ m. get m []) same ∙ get-map_of_root w)

-- ---- a child that is gone through

-- among children in order, each is found by its name
pub found-among : (all before rest its : List (List ℕ × NodeValue)) (name : List ℕ) (kid : NodeValue) → IsStrictlySortedBy name_cmp (keys_of all) → before ++ its ≡ all → its ≡ (name, kid) ∷ rest → lookup (is_at (name_cmp name)) all ≡ Some kid
found-among all before rest its name kid ordered so_far next =
    let whole : before ++ (name, kid) ∷ rest ≡ all = ap (λ l. before ++ l) (sym next) ∙ so_far in
    let sorted : is_sorted name_cmp (before ++ (name, kid) ∷ rest) ≡ true = ap (is_sorted name_cmp) whole ∙ sorted-from_keys all ordered in
    lookup-find name all ∙ ap (find name_cmp name) (sym whole) ∙ find-append name before ((name, kid) ∷ rest)
    ∙ (λ i. option_or (not-below name before (below-from_under name kid rest before (sorted-under before ((name, kid) ∷ rest) sorted)) i) (find name_cmp name ((name, kid) ∷ rest)))
    ∙ ap (λ b. cond b (Some kid) (find name_cmp name rest)) (name_itself name)

-- one was gone through
pub passed-more : (all before rest its : List (List ℕ × NodeValue)) (name : List ℕ) (kid : NodeValue) → before ++ its ≡ all → its ≡ (name, kid) ∷ rest → (before ++ (name, kid) ∷ []) ++ rest ≡ all
passed-more all before rest its name kid so_far next = append_assoc before ((name, kid) ∷ []) rest ∙ ap (λ l. before ++ l) (sym next) ∙ so_far

-- ---- a step of a comparison

pub heads-same : (a b : List ℕ) (m n : TreeMap) (xs ys : List (List ℕ × TreeMap)) → a ≡ b → m ≡ n → ((a, m) ∷ xs ≡ (b, n) ∷ ys) ↔ (xs ≡ ys)
heads-same a b m n xs ys p q = (λ e. cc, λ e i. (p i, q i) ∷ e i)

-- one more is the same
pub same-step : {P : Type 0} (its rest js rest' : List (List ℕ × NodeValue)) (a b : List ℕ) (v w : NodeValue) → P ↔ (kid_maps its ≡ kid_maps js) → its ≡ (a, v) ∷ rest → js ≡ (b, w) ∷ rest' → a ≡ b → map_of v ≡ map_of w → P ↔ (kid_maps rest ≡ kid_maps rest')
same-step its rest js rest' a b v w so_far next other same both =
    let heads = heads-same a b (map_of v) (map_of w) (kid_maps rest) (kid_maps rest') same both in
    (λ p. heads.0 (sym (ap kid_maps next) ∙ so_far.0 p ∙ ap kid_maps other), λ e. so_far.1 (ap kid_maps next ∙ heads.1 e ∙ sym (ap kid_maps other)))

-- the start of a comparison, its and js being the children as they were lent
pub same-start : (kids others its js : List (List ℕ × NodeValue)) → IsStrictlySortedBy name_cmp (keys_of kids) → IsStrictlySortedBy name_cmp (keys_of others) → its ≡ kids → js ≡ others
    → (joined kids ≡ joined others) ↔ (kid_maps its ≡ kid_maps js)
same-start kids others its js s t lent other_lent = (
  λ e. ap kid_maps lent ∙ same-from_joined kids others (sorted-from_keys kids s) (sorted-from_keys others t) e ∙ ap kid_maps (sym other_lent),
  λ e. joined-from_same kids others (ap kid_maps (sym lent) ∙ e ∙ ap kid_maps other_lent),
)
