-- What is seen of nodes and children on which COPYs put modes and owners.
use Rattle.std.specs.Prelude.{◌≡◌, ◌↔◌, ℕ, ◌+◌, ◌-◌, ◌<◌, ◌≤◌, Bool, true, false, length, drop, get_or, cond, Option, Some, None, List, [], ◌∷◌, ◌++◌, is_some, not, ◌&&◌, option_map, option_and_then}
use Rattle.std.proofs.Common.{sym, ap, refl, ◌∙◌, subst, true≢false, append_assoc, append-nil, arith}
use Rattle.std.proofs.lemmas.List.{drop_more, drop_all, drop-map, drop-append-le}
use Rattle.std.specs.Arc.{arc_value}
use Rattle.std.specs.declared.sync.Arc.{Arc}
use Rattle.std.specs.Option.{option_or}
use Rattle.std.specs.Ordering.{eq_by_cmp, is_lt}
use Rattle.std.specs.Map.{keys_of, lookup}
use Rattle.std.specs.BTreeMap.{is_at}
use Rattle.std.specs.FinMap.{get, empty, entries, find, get-empty, get-entries}
use Rattle.std.specs.FinMap.Entries.{is_sorted, below_all}
use Rattle.paths.specs.Order.{name_cmp, path_cmp}
use Rattle.trees.specs.declared.entry.Entry.{Entry}
use Rattle.trees.specs.declared.entry.Entry.TheVariants.{Directory, File}
use Rattle.trees.specs.declared.copy.CopyOptions.{CopyOptions}
use Rattle.trees.specs.TreeMap.{TreeMap, is_directory, meta_of}
use Rattle.trees.specs.Copy.{placed_entry, placed_meta}
use Rattle.trees.specs.Branch.{from_name}
use Rattle.trees.specs.PrivateNode.{NodeValue, map_of, joined, node_of, height_of, flat, is_full, are_full, are_parts, lists_of, IsDepth}
use Rattle.trees.specs.PrivateSeen.{placed_rows, placed_map, seen, seen_kids, seen_parts}
use Rattle.trees.specs.PrivateCopy.{keeping}
use Rattle.trees.proofs.TreeLaws.{same_tree, get-insert_all}
use Rattle.trees.proofs.PartSteps.{lists-append}
use Rattle.trees.proofs.NodeLaws.{get-map_of_root, get-map_of_cons, get-joined, get-joined_root, lookup-find}

abbrev Path : Type 0
Path = List (List ℕ)

abbrev Rows : Type 0
Rows = List (Path × Entry)

abbrev Kids : Type 0
Kids = List (List ℕ × NodeValue)

-- ---- what stands at each path

pub find-placed : (o : CopyOptions) (q : Path) (rows : Rows) → find path_cmp q (placed_rows o rows) ≡ option_map (placed_entry o) (find path_cmp q rows)
find-placed o q [] = refl
find-placed o q (row ∷ rows) = ap (cond (eq_by_cmp path_cmp q row.0) (Some (placed_entry o row.1))) (find-placed o q rows) ∙ pushed (eq_by_cmp path_cmp q row.0) row.1 (find path_cmp q rows)
  where
    pushed : (b : Bool) (e : Entry) (x : Option Entry) → cond b (Some (placed_entry o e)) (option_map (placed_entry o) x) ≡ option_map (placed_entry o) (cond b (Some e) x)
    pushed true e x = refl
    pushed false e x = refl

or_none : (x : Option Entry) → option_or x None ≡ x
or_none None = refl
or_none (Some e) = refl

pub get-placed_map : (o : CopyOptions) (m : TreeMap) (q : Path) → get (placed_map o m) q ≡ option_map (placed_entry o) (get m q)
get-placed_map o m q =
    get-insert_all (placed_rows o (entries m)) empty q
    ∙ (λ i. option_or (find-placed o q (entries m) i) (get-empty path_cmp q i))
    ∙ or_none (option_map (placed_entry o) (find path_cmp q (entries m)))
    ∙ ap (option_map (placed_entry o)) (sym (get-entries m q))

pub get-seen : (o : CopyOptions) (n : NodeValue) (q : Path) → get (map_of (seen o n)) q ≡ option_map (placed_entry o) (get (map_of n) q)
get-seen o n [] = get-map_of_root (seen o n) ∙ ap (option_map (placed_entry o)) (sym (get-map_of_root n))
get-seen o n (c ∷ cs) = get-map_of_cons (seen o n) c cs ∙ get-placed_map o n.below (c ∷ cs) ∙ ap (option_map (placed_entry o)) (sym (get-map_of_cons n c cs))

-- ---- nodes

map-same : (f g : Entry → Entry) → ((e : Entry) → f e ≡ g e) → (x : Option Entry) → option_map f x ≡ option_map g x
map-same f g same None = refl
map-same f g same (Some e) = ap Some (same e)

map-twice : (f g : Entry → Entry) (x : Option Entry) → option_map (λ e. g (f e)) x ≡ option_map g (option_map f x)
map-twice f g None = refl
map-twice f g (Some e) = refl

map-plain : (x : Option Entry) → option_map (λ e. e) x ≡ x
map-plain None = refl
map-plain (Some e) = refl

node-same : (v w : NodeValue) → v.top ≡ w.top → v.below ≡ w.below → v.height ≡ w.height → v ≡ w
node-same v w t b h = λ i. record { top = t i; below = b i; height = h i }

map-plainly : (o : CopyOptions) → ((e : Entry) → placed_entry o e ≡ e) → (m : TreeMap) → placed_map o m ≡ m
map-plainly o plain m = same_tree (placed_map o m) m (λ q. get-placed_map o m q ∙ map-same (placed_entry o) (λ e. e) plain (get m q) ∙ map-plain (get m q))

-- where entries are placed as they are, a node is seen as it is
pub seen-plain : (o : CopyOptions) → ((e : Entry) → placed_entry o e ≡ e) → (n : NodeValue) → seen o n ≡ n
seen-plain o plain n = node-same (seen o n) n (plain n.top) (map-plainly o plain n.below) refl

-- where neither owner nor mode is asked for, an entry is placed as it is
pub kept : (e : Entry) → placed_entry keeping e ≡ e
kept (Directory m) = refl
kept (File m b) = refl

pub seen-keeping : (n : NodeValue) → seen keeping n ≡ n
seen-keeping n = seen-plain keeping kept n

-- what is placed once and then again is placed as by both
pub seen-twice : (both first later : CopyOptions) → ((e : Entry) → placed_entry both e ≡ placed_entry later (placed_entry first e)) → (n : NodeValue) → seen both n ≡ seen later (seen first n)
seen-twice both first later same n =
    node-same (seen both n) (seen later (seen first n)) (same n.top)
    (same_tree (placed_map both n.below) (placed_map later (placed_map first n.below)) at) refl
  where
    at : (q : Path) → get (placed_map both n.below) q ≡ get (placed_map later (placed_map first n.below)) q
    at q =
        get-placed_map both n.below q
        ∙ map-same (placed_entry both) (λ e. placed_entry later (placed_entry first e)) same (get n.below q)
        ∙ map-twice (placed_entry first) (placed_entry later) (get n.below q)
        ∙ ap (option_map (placed_entry later)) (sym (get-placed_map first n.below q))
        ∙ sym (get-placed_map later (placed_map first n.below) q)

-- ---- children

pub seen_kids-append : (o : CopyOptions) (xs ys : Kids) → seen_kids o (xs ++ ys) ≡ seen_kids o xs ++ seen_kids o ys
seen_kids-append o [] ys = refl
seen_kids-append o (x ∷ xs) ys = ap (λ (r : Kids). (x.0, seen o x.1) ∷ r) (seen_kids-append o xs ys)

-- of children that lie side by side the first ones are passed, up to this one
pub seen_kids-passed : (o : CopyOptions) (begun passed left behind : Kids) (kid : List ℕ × NodeValue) → begun ≡ passed ++ left → 0 < length passed → kid ≡ get_or passed (length passed - 1) kid
    → drop (length passed - 1) (seen_kids o (begun ++ behind)) ≡ (kid.0, seen o kid.1) ∷ seen_kids o (left ++ behind)
seen_kids-passed o begun passed left behind kid parted some is =
    let n = length passed - 1 in
    let end : length passed ≤ n + 1 = omega arith in
    let last : drop n passed ≡ kid ∷ [] = drop_more passed n kid (omega arith) ∙ (λ i. sym is i ∷ drop_all (n + 1) passed end i) in
    drop-map (λ (k : List ℕ × NodeValue). (k.0, seen o k.1)) n (begun ++ behind)
    ∙ ap (λ (ks : Kids). seen_kids o (drop n ks)) (ap (λ (ks : Kids). ks ++ behind) parted ∙ append_assoc passed left behind)
    ∙ ap (seen_kids o) (drop-append-le n passed (left ++ behind) (omega arith) ∙ ap (λ (ks : Kids). ks ++ (left ++ behind)) last)

pub seen_kids-names : (o : CopyOptions) (kids : Kids) → keys_of (seen_kids o kids) ≡ keys_of kids
seen_kids-names o [] = refl
seen_kids-names o (k ∷ ks) = ap (λ (r : List (List ℕ)). k.0 ∷ r) (seen_kids-names o ks)

pub seen_kids-keeping : (kids : Kids) → seen_kids keeping kids ≡ kids
seen_kids-keeping [] = refl
seen_kids-keeping (k ∷ ks) = λ i. (k.0, seen-keeping k.1 i) ∷ seen_kids-keeping ks i

pub seen_kids-plain : (o : CopyOptions) → ((e : Entry) → placed_entry o e ≡ e) → (kids : Kids) → seen_kids o kids ≡ kids
seen_kids-plain o plain [] = refl
seen_kids-plain o plain (k ∷ ks) = λ i. (k.0, seen-plain o plain k.1 i) ∷ seen_kids-plain o plain ks i

pub find-seen : (o : CopyOptions) (c : List ℕ) (kids : Kids) → find name_cmp c (seen_kids o kids) ≡ option_map (seen o) (find name_cmp c kids)
find-seen o c [] = refl
find-seen o c (k ∷ ks) = ap (cond (eq_by_cmp name_cmp c k.0) (Some (seen o k.1))) (find-seen o c ks) ∙ pushed (eq_by_cmp name_cmp c k.0) k.1 (find name_cmp c ks)
  where
    pushed : (b : Bool) (v : NodeValue) (x : Option NodeValue) → cond b (Some (seen o v)) (option_map (seen o) x) ≡ option_map (seen o) (cond b (Some v) x)
    pushed true v x = refl
    pushed false v x = refl

pub lookup-seen : (o : CopyOptions) (c : List ℕ) (kids : Kids) → lookup (is_at (name_cmp c)) (seen_kids o kids) ≡ option_map (seen o) (lookup (is_at (name_cmp c)) kids)
lookup-seen o c kids = lookup-find c (seen_kids o kids) ∙ find-seen o c kids ∙ ap (option_map (seen o)) (sym (lookup-find c kids))

below_all-seen : (o : CopyOptions) (c : List ℕ) (kids : Kids) → below_all name_cmp c (seen_kids o kids) ≡ below_all name_cmp c kids
below_all-seen o c [] = refl
below_all-seen o c (k ∷ ks) = ap (λ (b : Bool). is_lt (name_cmp c k.0) && b) (below_all-seen o c ks)

pub sorted-seen : (o : CopyOptions) (kids : Kids) → is_sorted name_cmp (seen_kids o kids) ≡ is_sorted name_cmp kids
sorted-seen o [] = refl
sorted-seen o (k ∷ ks) = λ i. below_all-seen o k.0 ks i && sorted-seen o ks i

pub height-seen : (o : CopyOptions) (kids : Kids) → height_of (seen_kids o kids) ≡ height_of kids
height-seen o [] = refl
height-seen o (k ∷ ks) = let rest = height-seen o ks in omega arith

joined-at : (o : CopyOptions) (cs : Path) (x : Option NodeValue) → option_and_then (λ v. get (map_of v) cs) (option_map (seen o) x) ≡ option_map (placed_entry o) (option_and_then (λ v. get (map_of v) cs) x)
joined-at o cs None = refl
joined-at o cs (Some v) = get-seen o v cs

pub joined-seen : (o : CopyOptions) (kids : Kids) → joined (seen_kids o kids) ≡ placed_map o (joined kids)
joined-seen o kids = same_tree (joined (seen_kids o kids)) (placed_map o (joined kids)) at
  where
    at : (q : Path) → get (joined (seen_kids o kids)) q ≡ get (placed_map o (joined kids)) q
    at [] = get-joined_root (seen_kids o kids) ∙ sym (get-placed_map o (joined kids) [] ∙ ap (option_map (placed_entry o)) (get-joined_root kids))
    at (c ∷ cs) =
        get-joined (seen_kids o kids) c cs
        ∙ ap (option_and_then (λ v. get (map_of v) cs)) (find-seen o c kids)
        ∙ joined-at o cs (find name_cmp c kids)
        ∙ ap (option_map (placed_entry o)) (sym (get-joined kids c cs))
        ∙ sym (get-placed_map o (joined kids) (c ∷ cs))

-- a node of these children is seen as a node of the children that are seen
pub seen-node : (o : CopyOptions) (top : Entry) (kids : Kids) → node_of (placed_entry o top) (seen_kids o kids) ≡ seen o (node_of top kids)
seen-node o top kids = node-same (node_of (placed_entry o top) (seen_kids o kids)) (seen o (node_of top kids)) refl (joined-seen o kids) (ap (λ (h : ℕ). h + 2) (height-seen o kids))

pub seen-parts : (o : CopyOptions) (parts : List Kids) → flat (seen_parts o parts) ≡ seen_kids o (flat parts)
seen-parts o [] = refl
seen-parts o (part ∷ parts) = ap (λ (r : Kids). seen_kids o part ++ r) (seen-parts o parts) ∙ sym (seen_kids-append o part (flat parts))

-- ---- a node that is lent

-- an entry with nothing below it
pub leaf-children : (o : CopyOptions) (entry : Entry) (v self : NodeValue) → node_of entry [] ≡ v → seen o v ≡ self → node_of self.top [] ≡ self
leaf-children o entry v self is see =
    let whole : seen o (node_of entry []) ≡ self = ap (seen o) is ∙ see in
    ap (λ (n : NodeValue). node_of n.top []) (sym whole) ∙ seen-node o entry [] ∙ whole

pub leaf-top : (o : CopyOptions) (entry : Entry) (v self : NodeValue) → node_of entry [] ≡ v → seen o v ≡ self → placed_entry o entry ≡ self.top
leaf-top o entry v self is see = ap (λ (n : NodeValue). n.top) (ap (seen o) is ∙ see)

-- what both put on an entry is what one puts on it and then the other
abbrev pub IsBoth : CopyOptions → CopyOptions → CopyOptions → Type 0
IsBoth both first later = (e : Entry) → placed_entry both e ≡ placed_entry later (placed_entry first e)

pub folder-seen : (own o both : CopyOptions) (inner v self : NodeValue) → IsBoth both own o → seen own inner ≡ v → seen o v ≡ self → seen both inner ≡ self
folder-seen own o both inner v self then is see = seen-twice both own o then inner ∙ ap (seen o) is ∙ see

pub folder-children : (own o both : CopyOptions) (kids lent : Kids) (inner v self : NodeValue) → IsBoth both own o → node_of inner.top kids ≡ inner → seen own inner ≡ v → seen o v ≡ self → lent ≡ seen_kids both kids → node_of self.top lent ≡ self
folder-children own o both kids lent inner v self then parts is see same =
    let whole : seen both (node_of inner.top kids) ≡ self = ap (seen both) parts ∙ folder-seen own o both inner v self then is see in
    ap (λ (n : NodeValue). node_of n.top lent) (sym whole) ∙ ap (node_of (placed_entry both inner.top)) same ∙ seen-node both inner.top kids ∙ whole

pub folder-top : (own o both : CopyOptions) (inner v self : NodeValue) (entry : Entry) → IsBoth both own o → entry ≡ inner.top → seen own inner ≡ v → seen o v ≡ self → placed_entry both entry ≡ self.top
folder-top own o both inner v self entry then same is see = ap (placed_entry both) same ∙ ap (λ (n : NodeValue). n.top) (folder-seen own o both inner v self then is see)

-- modes, owners and kinds of what is placed
pub meta-placed : (o : CopyOptions) (e : Entry) → meta_of (placed_entry o e) ≡ placed_meta o (meta_of e)
meta-placed o (Directory m) = refl
meta-placed o (File m b) = refl

pub kind-placed : (o : CopyOptions) (e : Entry) → is_directory (Some (placed_entry o e)) ≡ is_directory (Some e)
kind-placed o (Directory m) = refl
kind-placed o (File m b) = refl

some-placed : (o : CopyOptions) (x : Option Entry) → is_some (option_map (placed_entry o) x) ≡ is_some x
some-placed o None = refl
some-placed o (Some e) = refl

pub some-seen : (o : CopyOptions) (below : TreeMap) (path : Path) → is_some (get (placed_map o below) path) ≡ is_some (get below path)
some-seen o below path = ap is_some (get-placed_map o below path) ∙ some-placed o (get below path)

-- what is seen is no deeper
pub depth-seen : (o : CopyOptions) (depth : ℕ) (below : TreeMap) → IsDepth depth below → IsDepth depth (placed_map o below)
depth-seen o depth below h = record { few = λ least path stands. h.few least path (sym (some-placed o (get below path)) ∙ ap is_some (sym (get-placed_map o below path)) ∙ stands) }

pub none-seen : (o : CopyOptions) (kids : Kids) → (kids ≡ []) ↔ (seen_kids o kids ≡ [])
none-seen o [] = (λ h. refl, λ h. refl)
none-seen o (k ∷ ks) = (λ h. absurd (true≢false (ap is_full h)), λ h. absurd (true≢false (ap is_full h)))

-- ---- rows and parts that are placed one after another

pub placed-row : (o : CopyOptions) (rows rows' all : Kids) (at : ℕ) (x : List ℕ × NodeValue) (key : List ℕ) (v : NodeValue) → rows ++ seen_kids o (drop at all) ≡ seen_kids o all → at < length all → x ≡ get_or all at x → key ≡ x.0 → v ≡ seen o x.1 → rows' ≡ rows ++ (key, v) ∷ []
    → rows' ++ seen_kids o (drop (at + 1) all) ≡ seen_kids o all
placed-row o rows rows' all at x key v so less is same_key same more =
    ap (λ (r : Kids). r ++ seen_kids o (drop (at + 1) all)) more
    ∙ append_assoc rows ((key, v) ∷ []) (seen_kids o (drop (at + 1) all))
    ∙ ap (λ (r : Kids). rows ++ r) ((λ i. (same_key i, same i) ∷ seen_kids o (drop (at + 1) all)) ∙ ap (seen_kids o) (sym (drop_more all at x less ∙ ap (λ (q : List ℕ × NodeValue). q ∷ drop (at + 1) all) (sym is))))
    ∙ so

pub rows-placed : (o : CopyOptions) (rows all : Kids) (left : Kids) → rows ++ seen_kids o left ≡ seen_kids o all → left ≡ [] → rows ≡ seen_kids o all
rows-placed o rows all left so none = sym (append-nil rows) ∙ ap (λ (l : Kids). rows ++ seen_kids o l) (sym none) ∙ so

seen_parts-full : (o : CopyOptions) (parts : List Kids) → are_full (seen_parts o parts) ≡ are_full parts
seen_parts-full o [] = refl
seen_parts-full o ([] ∷ parts) = refl
seen_parts-full o ((kid ∷ kids) ∷ parts) = seen_parts-full o parts

pub parts-seen : (o : CopyOptions) (parts : List Kids) → are_parts (seen_parts o parts) ≡ are_parts parts
parts-seen o parts = λ i. seen_parts-full o parts i && (ap (is_sorted name_cmp) (seen-parts o parts) ∙ sorted-seen o (flat parts)) i

module _ {Z : Type 0} where
  pub placed-part : (o : CopyOptions) (placed placed' parts : List (Arc Kids Z)) (at : ℕ) (x part : Arc Kids Z) (lent names : Kids) → lists_of placed ++ seen_parts o (lists_of (drop at parts)) ≡ seen_parts o (lists_of parts) → at < length parts → part ≡ get_or parts at part
      → lent ≡ arc_value part → names ≡ seen_kids o lent → arc_value x ≡ names → placed' ≡ placed ++ x ∷ [] → lists_of placed' ++ seen_parts o (lists_of (drop (at + 1) parts)) ≡ seen_parts o (lists_of parts)
  placed-part o placed placed' parts at x part lent names so less is same made held more =
      let rest = seen_parts o (lists_of (drop (at + 1) parts)) in
      ap (λ (l : List (Arc Kids Z)). lists_of l ++ rest) more
      ∙ ap (λ (l : List Kids). l ++ rest) (lists-append placed (x ∷ []))
      ∙ append_assoc (lists_of placed) (arc_value x ∷ []) rest
      ∙ ap (λ (l : List Kids). lists_of placed ++ l) (ap (λ (k : Kids). k ∷ rest) (held ∙ made ∙ ap (seen_kids o) same) ∙ ap (λ (l : List (Arc Kids Z)). seen_parts o (lists_of l)) (sym (drop_more parts at part less ∙ ap (λ (q : Arc Kids Z). q ∷ drop (at + 1) parts) (sym is))))
      ∙ so

pub parts-placed : (o : CopyOptions) (placed parts left : List Kids) → placed ++ seen_parts o left ≡ seen_parts o parts → left ≡ [] → placed ≡ seen_parts o parts
parts-placed o placed parts left so none = sym (append-nil placed) ∙ ap (λ (l : List Kids). placed ++ seen_parts o l) (sym none) ∙ so

-- what is left of children from a name on is seen as what is left of those that are seen
pub seen_kids-from : (o : CopyOptions) (front : List ℕ) (kids : Kids) → from_name front (seen_kids o kids) ≡ seen_kids o (from_name front kids)
seen_kids-from o front [] = refl
seen_kids-from o front (k ∷ ks) = by (is_lt (name_cmp k.0 front)) (seen_kids-from o front ks)
  where
    by : (b : Bool) → from_name front (seen_kids o ks) ≡ seen_kids o (from_name front ks)
        → cond (not b) (seen_kids o (k ∷ []) ++ from_name front (seen_kids o ks)) (from_name front (seen_kids o ks)) ≡ seen_kids o (cond (not b) (k ∷ from_name front ks) (from_name front ks))
    by true more = more
    by false more = ap (λ (r : Kids). seen_kids o (k ∷ []) ++ r) more

-- ---- a node that is changed where it stands

-- nothing is put on it
pub here-same : (o : CopyOptions) (v w self : NodeValue) → ((entry : Entry) → placed_entry o entry ≡ entry) → w ≡ v → seen o v ≡ self → w ≡ self
here-same o v w self plain same is = same ∙ sym (seen-plain o plain v) ∙ is

-- so what is done there is done to what is seen
pub changed-here : (P : NodeValue → NodeValue → Type 0) (o : CopyOptions) (v w self new : NodeValue) → ((entry : Entry) → placed_entry o entry ≡ entry) → w ≡ v → seen o v ≡ self → P w new → P self (seen o new)
changed-here P o v w self new plain same is h = subst (λ (n : NodeValue). P self n) (sym (seen-plain o plain new)) (subst (λ (n : NodeValue). P n new) (here-same o v w self plain same is) h)

-- a node of children that are placed
pub kids-node : (o : CopyOptions) (top : Entry) (kids placed : Kids) (self : NodeValue) → node_of top kids ≡ self → placed ≡ seen_kids o kids → node_of (seen o self).top placed ≡ seen o self
kids-node o top kids placed self is same =
    ap (λ (n : NodeValue). node_of (seen o n).top placed) (sym is) ∙ ap (node_of (placed_entry o top)) same ∙ seen-node o top kids ∙ ap (seen o) is

-- nothing is below a leaf
pub leaf-depth : (entry : Entry) (self : NodeValue) → node_of entry [] ≡ self → IsDepth 0 self.below
leaf-depth entry self is = record { few = λ least path stands. absurd (true≢false (sym stands ∙ ap is_some (ap (λ (n : NodeValue). get n.below path) (sym is) ∙ get-empty path_cmp path))) }

-- no path below a node that is placed is longer
pub depth-kids : (o : CopyOptions) (depth : ℕ) (top : Entry) (kids placed : Kids) (self : NodeValue) → node_of top kids ≡ self → node_of (seen o self).top placed ≡ seen o self → IsDepth depth (joined kids) → IsDepth depth (joined placed)
depth-kids o depth top kids placed self is same h =
    subst (IsDepth depth) (ap (placed_map o) (ap (λ (n : NodeValue). n.below) is) ∙ sym (ap (λ (n : NodeValue). n.below) same)) (depth-seen o depth (joined kids) h)

-- a leaf is seen with nothing below it
pub leaf-below : (o : CopyOptions) (entry other : Entry) (v self leaf : NodeValue) → node_of entry [] ≡ v → seen o v ≡ self → leaf ≡ node_of other [] → leaf.below ≡ self.below
leaf-below o entry other v self leaf is see made =
    ap (λ (n : NodeValue). n.below) made ∙ joined-seen o [] ∙ ap (λ (n : NodeValue). n.below) (ap (seen o) is ∙ see)
