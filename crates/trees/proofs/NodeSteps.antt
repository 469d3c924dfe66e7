-- One step down a path, as the code of a node takes it: the path's first name, the child of that name, and the rest of the path.
use Rattle.std.specs.Prelude.{◌≡◌, ℕ, max, ◌+◌, ◌-◌, ◌<◌, ◌≤◌, Bool, true, false, not, cond, ◌||◌, ◌&&◌, Option, Some, None, List, [], ◌∷◌, length, get_or, take, drop, ◌++◌, MatchOption, option_and_then, Result, Ok, Err, IfOk, OnErr, is_ok}
use Rattle.std.proofs.Common.{sym, ap, refl, ◌∙◌, subst, true≢false, arith}
use Rattle.std.proofs.lemmas.Grind.{common_steps}
use Rattle.std.proofs.lemmas.Option.{same_Some, none-some}
use Rattle.std.proofs.lemmas.Result.{IfOk-weaker}
use Rattle.std.specs.Map.{lookup}
use Rattle.std.specs.BTreeMap.{is_at}
use Rattle.std.specs.Ordering.{eq_by_cmp}
use Rattle.std.specs.Option.{option_or}
use Rattle.std.specs.Cmp.{eq_by_cmp_equiv}
use Rattle.std.specs.Cmp.Lexicographic.{nat_list_cmp_total}
use Rattle.std.specs.FinMap.{get, insert, find, empty, get-empty}
use Rattle.paths.specs.Order.{path_cmp}
use Rattle.trees.specs.declared.meta.Meta.{Meta}
use Rattle.trees.specs.declared.entry.Entry.TheVariants.{Directory, File}
use Rattle.trees.specs.declared.entry.Entry.{Entry}
use Rattle.paths.specs.Order.{name_cmp}
use Rattle.paths.specs.Fronts.{is_front}
use Rattle.trees.specs.TreeMap.{is_blocked, is_file, is_directory}
use Rattle.trees.specs.PrivateNode.{NodeValue, map_of, joined, height_of, node_of, IsPlanted, ArePlanted, AreKids}
use Rattle.trees.specs.Put.{planted}
use Rattle.trees.specs.PrivateNode.{IsBelow}
use Rattle.trees.specs.declared.lent_entry.LentEntry.{LentEntry}
use Rattle.trees.specs.declared.landing.Landing.{Landing}
use Rattle.trees.specs.declared.landing.Landing.TheVariants.{Blocked, Free, At}
use Rattle.trees.specs.Rows.{entry_of}
use Rattle.trees.specs.PrivateLanding.{Lands}
use Rattle.paths.proofs.FrontLaws.{name_same, path_eq-cons}
use Rattle.trees.proofs.WayLaws.{is_blocked-cons, open-from_fronts}
use Rattle.trees.proofs.TreeLaws.{same_tree}
use Rattle.trees.proofs.NodeLaws.{get-map_of_root, get-map_of_cons, get-joined, get-joined_root, lookup-find}

pub whole_rest : {A : Type 0} (x : A) (xs : List A) → take (length (x ∷ xs) - 1) (drop 1 (x ∷ xs)) ≡ xs
whole_rest x xs = grind (arith, common_steps)

-- a path that isn't the root is its first name and the rest
pub path-parts : (path : List (List ℕ)) (name : List ℕ) → 1 ≤ length path → name ≡ get_or path 0 name → path ≡ name ∷ take (length path - 1) (drop 1 path)
path-parts [] name more is = absurd (omega arith)
path-parts (c ∷ cs) name more is = λ i. sym is i ∷ sym (whole_rest c cs) i

pub empty-path : (path : List (List ℕ)) → length path < 1 → path ≡ []
empty-path [] less = refl
empty-path (c ∷ cs) less = absurd (omega arith)

-- at the root stands the node's own entry
pub get-own : (value : NodeValue) (path : List (List ℕ)) → length path < 1 → get (map_of value) path ≡ Some value.top
get-own value path less = ap (get (map_of value)) (empty-path path less) ∙ get-map_of_root value

-- what stands below a name is what its child has
abbrev pub IsBelowName : NodeValue → List ℕ → Option NodeValue → Type 0
IsBelowName value name kid = (rest : List (List ℕ)) → get (map_of value) (name ∷ rest) ≡ option_and_then (λ v. get (map_of v) rest) kid

-- at a path that isn't the root stands what the child of the first name has
pub get-kid : (value : NodeValue) (path : List (List ℕ)) (name : List ℕ) (kid : Option NodeValue) → 1 ≤ length path → name ≡ get_or path 0 name → IsBelowName value name kid
    → get (map_of value) path ≡ option_and_then (λ v. get (map_of v) (take (length path - 1) (drop 1 path))) kid
get-kid value path name kid more first below = ap (get (map_of value)) (path-parts path name more first) ∙ below (take (length path - 1) (drop 1 path))

-- ---- whether a file stands on the way

file_top : (top : Entry) → is_file (Some top) ≡ not (is_directory (Some top))
file_top (Directory m) = refl
file_top (File m c) = refl

-- whether a file stands on the way in a child, if there is one
abbrev pub blocked_in : Option NodeValue → List (List ℕ) → Bool
blocked_in None rest = false
blocked_in (Some kid) rest = is_blocked (get (map_of kid)) rest

pub blocked-in_kid : (kid : Option NodeValue) (rest : List (List ℕ)) → is_blocked (λ p. option_and_then (λ v. get (map_of v) p) kid) rest ≡ blocked_in kid rest
blocked-in_kid None rest = open-from_fronts (λ _. None) rest (λ f g. refl)
blocked-in_kid (Some kid) rest = refl

pub blocked-step : (value : NodeValue) (path : List (List ℕ)) (name : List ℕ) (kid : Option NodeValue) → 1 ≤ length path → name ≡ get_or path 0 name → IsBelowName value name kid
    → is_blocked (get (map_of value)) path ≡ (not (is_directory (Some value.top)) || blocked_in kid (take (length path - 1) (drop 1 path)))
blocked-step value path name kid more first below =
    let rest = take (length path - 1) (drop 1 path) in
    ap (is_blocked (get (map_of value))) (path-parts path name more first)
    ∙ is_blocked-cons (get (map_of value)) name rest
    ∙ (λ i. is_file (get-map_of_root value i) || is_blocked (λ p. below p i) rest)
    ∙ (λ i. file_top value.top i || blocked-in_kid kid rest i)

-- ---- what a walk down finds

-- at the root it is the node's own entry
pub lands-own : (value : NodeValue) (path : List (List ℕ)) (entry : LentEntry) → length path < 1 → entry_of entry ≡ value.top → Lands (get (map_of value)) path (At entry)
lands-own value path entry less is = (ap (is_blocked (get (map_of value))) (empty-path path less), get-own value path less ∙ ap Some (sym is))

-- a file at the root is on the way to all else
pub lands-blocked : (value : NodeValue) (path : List (List ℕ)) (name : List ℕ) → 1 ≤ length path → name ≡ get_or path 0 name → is_directory (Some value.top) ≡ false → Lands (get (map_of value)) path Blocked
lands-blocked value path name more first file =
    let rest = take (length path - 1) (drop 1 path) in
    ap (is_blocked (get (map_of value))) (path-parts path name more first)
    ∙ is_blocked-cons (get (map_of value)) name rest
    ∙ (λ i. is_file (get-map_of_root value i) || is_blocked (λ p. get (map_of value) (name ∷ p)) rest)
    ∙ (λ i. (file_top value.top ∙ ap not file) i || is_blocked (λ p. get (map_of value) (name ∷ p)) rest)

-- below a directory it is what the child of the first name has on the rest of the way
pub lands-kid : (value : NodeValue) (path : List (List ℕ)) (name : List ℕ) (kid : NodeValue) (landing : Landing) → 1 ≤ length path → name ≡ get_or path 0 name → is_directory (Some value.top) ≡ true → IsBelowName value name (Some kid)
    → Lands (get (map_of kid)) (take (length path - 1) (drop 1 path)) landing → Lands (get (map_of value)) path landing
lands-kid value path name kid Blocked more first way below h = blocked-step value path name (Some kid) more first below ∙ (λ i. not (way i) || h i)
lands-kid value path name kid Free more first way below h =
    (blocked-step value path name (Some kid) more first below ∙ (λ i. not (way i) || h.0 i), get-kid value path name (Some kid) more first below ∙ h.1)
lands-kid value path name kid (At entry) more first way below h =
    (blocked-step value path name (Some kid) more first below ∙ (λ i. not (way i) || h.0 i), get-kid value path name (Some kid) more first below ∙ h.1)

-- where there is no such child, it is nothing
pub lands-nowhere : (value : NodeValue) (path : List (List ℕ)) (name : List ℕ) → 1 ≤ length path → name ≡ get_or path 0 name → is_directory (Some value.top) ≡ true → IsBelowName value name None → Lands (get (map_of value)) path Free
lands-nowhere value path name more first way below =
    (blocked-step value path name None more first below ∙ (λ i. not (way i) || false), get-kid value path name None more first below)

-- ---- an entry is put at a path

or_none : (o : Option Entry) → o ≡ option_or o None
or_none None = refl
or_none (Some e) = refl

pub leaf-planted : (leaf : NodeValue) (path : List (List ℕ)) (parent : Meta) (entry : Entry) → leaf.top ≡ entry → leaf.below ≡ empty → length path < 1 → IsPlanted (λ _. None) (map_of leaf) path parent entry
leaf-planted leaf (c ∷ cs) parent entry t b less = absurd (omega arith)
leaf-planted leaf [] parent entry t b less = record { at = leaf_at leaf parent entry t b }
  where
    leaf_at : (leaf : NodeValue) (parent : Meta) (entry : Entry) → leaf.top ≡ entry → leaf.below ≡ empty → (q : List (List ℕ)) → get (map_of leaf) q ≡ planted (λ _. None) [] parent entry q
    leaf_at leaf parent entry t b [] = get-map_of_root leaf ∙ ap Some t
    leaf_at leaf parent entry t b (c ∷ cs) = get-map_of_cons leaf c cs ∙ ap (λ m. get m (c ∷ cs)) b ∙ get-empty path_cmp (c ∷ cs)

pub own-planted : (value : NodeValue) (top : Entry) (kids : List (List ℕ × NodeValue)) (path : List (List ℕ)) (parent : Meta) (entry : Entry) → node_of top kids ≡ value → length path < 1 → IsPlanted (get (map_of value)) (map_of (node_of entry kids)) path parent entry
own-planted value top kids (c ∷ cs) parent entry is less = absurd (omega arith)
own-planted value top kids [] parent entry is less = record { at = own_at value top kids parent entry is }
  where
    own_at : (value : NodeValue) (top : Entry) (kids : List (List ℕ × NodeValue)) (parent : Meta) (entry : Entry) → node_of top kids ≡ value → (q : List (List ℕ)) → get (map_of (node_of entry kids)) q ≡ planted (get (map_of value)) [] parent entry q
    own_at value top kids parent entry is [] = get-map_of_root (node_of entry kids)
    own_at value top kids parent entry is (c ∷ cs) =
        get-map_of_cons (node_of entry kids) c cs ∙ sym (get-map_of_cons (node_of top kids) c cs) ∙ (λ i. get (map_of (is i)) (c ∷ cs)) ∙ or_none (get (map_of value) (c ∷ cs))

-- of the children, the one of this name is another, and all others are the same
pub record IsKid (old new : List (List ℕ × NodeValue)) (name : List ℕ) (kid : NodeValue) : Type 0 where
  pub at : (q : List ℕ) → lookup (is_at (name_cmp q)) new ≡ cond (is_at (name_cmp name) q) (Some kid) (lookup (is_at (name_cmp q)) old)

-- a child found to be another
pub is-kid : (old new : List (List ℕ × NodeValue)) (name : List ℕ) (kid : NodeValue) → AreKids old new name (Some kid) → IsKid old new name kid
is-kid old new name kid h = record { at = λ q. lookup-find q new ∙ h.at q ∙ (λ i. cond (sym ((eq_by_cmp_equiv nat_list_cmp_total).symm name q) i) (Some kid) (sym (lookup-find q old) i)) }

pub kids-from : (old old' new : List (List ℕ × NodeValue)) (name : List ℕ) (kid : Option NodeValue) → old ≡ old' → AreKids old new name kid → AreKids old' new name kid
kids-from old old' new name kid same h = subst (λ (o : List (List ℕ × NodeValue)). AreKids o new name kid) same h

-- what holds at a refusal holds where there was one
pub at-err : {A E P : Type 0} (r : Result A E) (e : E) → r ≡ Err e → OnErr r P → P
at-err (Ok a) e is p = absurd (true≢false (ap is_ok is))
at-err (Err e') e is p = p

-- what is found is there
pub there : (kids : List (List ℕ × NodeValue)) (name : List ℕ) (kid : Option NodeValue) → find name_cmp name kids ≡ kid → kid ≡ lookup (is_at (name_cmp name)) kids
there kids name kid found = sym found ∙ sym (lookup-find name kids)

-- what stands in a child, if there is one
abbrev pub at_kid : Option NodeValue → List (List ℕ) → Option Entry
at_kid kid p = option_and_then (λ v. get (map_of v) p) kid

-- what stands at d and ds below a node, old being what stood below d, and kid what is below the name now
one_name : (tie same front : Bool) (old now : Option Entry) (d e : Entry) → (tie ≡ true → now ≡ cond same (Some e) (option_or old (cond front (Some d) None)))
    → cond tie now old ≡ cond (tie && same) (Some e) (option_or old (cond (tie && front) (Some d) None))
one_name true same front old now d e h = h refl
one_name false same front old now d e h = or_none old

pub find_changed : (old_kids kids : List (List ℕ × NodeValue)) (name : List ℕ) (kid : NodeValue) → IsKid old_kids kids name kid → (d : List ℕ) → find name_cmp d kids ≡ cond (eq_by_cmp name_cmp d name) (Some kid) (find name_cmp d old_kids)
find_changed old_kids kids name kid changed d =
    sym (lookup-find d kids) ∙ changed.at d ∙ (λ i. cond ((eq_by_cmp_equiv nat_list_cmp_total).symm name d i) (Some kid) (lookup-find d old_kids i))

kept_kid : (tie : Bool) (f : NodeValue → Option Entry) (kid : NodeValue) (o : Option NodeValue) → (tie ≡ true → f kid ≡ option_and_then f o) → option_and_then f (cond tie (Some kid) o) ≡ option_and_then f o
kept_kid true f kid o h = h refl
kept_kid false f kid o h = refl

module _ (old_kids kids : List (List ℕ × NodeValue)) (name : List ℕ) (rest : List (List ℕ)) (parent : Meta) (entry : Entry) (kid : NodeValue) (found : Option NodeValue)
    (has : find name_cmp name old_kids ≡ found) (changed : IsKid old_kids kids name kid) (changed_tree : IsPlanted (at_kid found) (map_of kid) rest parent entry) where
  pulled : (b : Bool) (f : NodeValue → Option Entry) (o : Option NodeValue) → option_and_then f (cond b (Some kid) o) ≡ cond b (f kid) (option_and_then f o)
  pulled true f o = refl
  pulled false f o = refl

  pub kids-planted : (d : List ℕ) (ds : List (List ℕ)) → get (joined kids) (d ∷ ds) ≡ planted (get (joined old_kids)) (name ∷ rest) parent entry (d ∷ ds)
  kids-planted d ds =
      let before : Option Entry = at_kid (find name_cmp d old_kids) ds in
      get-joined kids d ds
      ∙ ap (λ o. at_kid o ds) (find_changed old_kids kids name kid changed d)
      ∙ pulled (eq_by_cmp name_cmp d name) (λ v. get (map_of v) ds) (find name_cmp d old_kids)
      ∙ one_name (eq_by_cmp name_cmp d name) (eq_by_cmp path_cmp ds rest) (is_front ds rest) before (get (map_of kid) ds) (Directory parent) entry
      (λ tie. changed_tree.at ds ∙ ap (λ o. cond (eq_by_cmp path_cmp ds rest) (Some entry) (option_or (at_kid o ds) (cond (is_front ds rest) (Some (Directory parent)) None))) (sym (ap (λ c. find name_cmp c old_kids) (name_same d name tie) ∙ has)))
      ∙ (λ i. cond (sym (path_eq-cons d name ds rest) i) (Some entry) (option_or (sym (get-joined old_kids d ds) i) (cond (is_front (d ∷ ds) (name ∷ rest)) (Some (Directory parent)) None)))

-- a child in which an entry was put is one of children in which it was put
pub plant-kid : (old_kids kids : List (List ℕ × NodeValue)) (name : List ℕ) (rest : List (List ℕ)) (parent : Meta) (entry : Entry) (kid : NodeValue) (found : Option NodeValue) → found ≡ lookup (is_at (name_cmp name)) old_kids → IsKid old_kids kids name kid → IsPlanted (at_kid found) (map_of kid) rest parent entry
    → ArePlanted (joined old_kids) (joined kids) name rest parent entry
plant-kid old_kids kids name rest parent entry kid found has changed changed_tree =
    record { at = kids-planted old_kids kids name rest parent entry kid found (sym (has ∙ lookup-find name old_kids)) changed changed_tree }

-- and one that stands for the same map leaves what stands below the node
pub keep-kid : (old_kids kids : List (List ℕ × NodeValue)) (name : List ℕ) (kid before : NodeValue) → Some before ≡ lookup (is_at (name_cmp name)) old_kids → IsKid old_kids kids name kid → map_of kid ≡ map_of before → joined kids ≡ joined old_kids
keep-kid old_kids kids name kid before has changed same = same_tree _ _ at
  where
    at : (q : List (List ℕ)) → get (joined kids) q ≡ get (joined old_kids) q
    at [] = get-joined_root kids ∙ sym (get-joined_root old_kids)
    at (d ∷ ds) =
        get-joined kids d ds
        ∙ ap (λ o. at_kid o ds) (find_changed old_kids kids name kid changed d)
        ∙ kept_kid (eq_by_cmp name_cmp d name) (λ v. get (map_of v) ds) kid (find name_cmp d old_kids)
        (λ tie. ap (λ m. get m ds) same ∙ sym (ap (λ o. at_kid o ds) (ap (λ c. find name_cmp c old_kids) (name_same d name tie) ∙ sym (has ∙ lookup-find name old_kids))))
        ∙ sym (get-joined old_kids d ds)

kept_top : (o d : Option Entry) (top : Entry) → o ≡ Some top → Some top ≡ option_or o d
kept_top o d top e = sym (ap (λ x. option_or x d) e)

-- children in which an entry was put make a node in which it was put
module _ (value : NodeValue) (top : Entry) (old_kids kids : List (List ℕ × NodeValue)) (path : List (List ℕ)) (name : List ℕ) (parent : Meta) (entry : Entry)
    (is : node_of top old_kids ≡ value) (more : 1 ≤ length path) (first : name ≡ get_or path 0 name) where
  under : (d : List ℕ) (ds : List (List ℕ)) → get (joined old_kids) (d ∷ ds) ≡ get (map_of value) (d ∷ ds)
  under d ds = sym (get-map_of_cons (node_of top old_kids) d ds) ∙ (λ i. get (map_of (is i)) (d ∷ ds))

  own : get (map_of value) [] ≡ Some top
  own = (λ i. get (map_of (sym is i)) []) ∙ get-map_of_root (node_of top old_kids)

  step_at : (rest : List (List ℕ)) → ArePlanted (joined old_kids) (joined kids) name rest parent entry → (q : List (List ℕ)) → get (map_of (node_of top kids)) q ≡ planted (get (map_of value)) (name ∷ rest) parent entry q
  step_at rest changed [] = get-map_of_root (node_of top kids) ∙ kept_top (get (map_of value) []) (Some (Directory parent)) top own
  step_at rest changed (d ∷ ds) =
      get-map_of_cons (node_of top kids) d ds
      ∙ changed.at d ds
      ∙ ap (λ o. cond (eq_by_cmp path_cmp (d ∷ ds) (name ∷ rest)) (Some entry) (option_or o (cond (is_front (d ∷ ds) (name ∷ rest)) (Some (Directory parent)) None))) (under d ds)

  pub plant-step : ArePlanted (joined old_kids) (joined kids) name (take (length path - 1) (drop 1 path)) parent entry → IsPlanted (get (map_of value)) (map_of (node_of top kids)) path parent entry
  plant-step changed = record { at = λ q. step_at (take (length path - 1) (drop 1 path)) changed q ∙ (λ i. planted (get (map_of value)) (sym (path-parts path name more first) i) parent entry q) }

-- a node whose children stand for the same stands for the same
pub keep-step : (value : NodeValue) (top : Entry) (old_kids kids : List (List ℕ × NodeValue)) → node_of top old_kids ≡ value → joined kids ≡ joined old_kids → map_of (node_of top kids) ≡ map_of value
keep-step value top old_kids kids is same = (λ i. insert (same i) [] top) ∙ ap map_of is

-- one child more than none
pub single : (name : List ℕ) (kid : NodeValue) → IsKid [] ((name, kid) ∷ []) name kid
single name kid = record { at = λ q. ap (λ b. cond b (Some kid) None) ((eq_by_cmp_equiv nat_list_cmp_total).symm q name) }

pub chain-step : (kids : List (List ℕ × NodeValue)) (path : List (List ℕ)) (name : List ℕ) (parent : Meta) (entry : Entry) (kid : NodeValue) → 1 ≤ length path → name ≡ get_or path 0 name → kids ≡ (name, kid) ∷ []
    → IsPlanted (λ _. None) (map_of kid) (take (length path - 1) (drop 1 path)) parent entry → IsPlanted (λ _. None) (map_of (node_of (Directory parent) kids)) path parent entry
chain-step kids path name parent entry kid more first one changed_tree =
    record { at = λ q. chain_at kids name (take (length path - 1) (drop 1 path)) parent entry kid (subst (λ (l : List (List ℕ × NodeValue)). IsKid [] l name kid) (sym one) (single name kid)) changed_tree q ∙ (λ i. planted (λ _. None) (sym (path-parts path name more first) i) parent entry q) }
  where
    chain_at : (kids : List (List ℕ × NodeValue)) (name : List ℕ) (rest : List (List ℕ)) (parent : Meta) (entry : Entry) (kid : NodeValue) → IsKid [] kids name kid → IsPlanted (λ _. None) (map_of kid) rest parent entry
        → (q : List (List ℕ)) → get (map_of (node_of (Directory parent) kids)) q ≡ planted (λ _. None) (name ∷ rest) parent entry q
    chain_at kids name rest parent entry kid changed changed_tree [] = get-map_of_root (node_of (Directory parent) kids)
    chain_at kids name rest parent entry kid changed changed_tree (d ∷ ds) =
        get-map_of_cons (node_of (Directory parent) kids) d ds
        ∙ kids-planted [] kids name rest parent entry kid None refl changed changed_tree d ds
        ∙ ap (λ o. cond (eq_by_cmp path_cmp (d ∷ ds) (name ∷ rest)) (Some entry) (option_or o (cond (is_front (d ∷ ds) (name ∷ rest)) (Some (Directory parent)) None))) (get-empty path_cmp (d ∷ ds))

-- what holds of a node holds of what was made of it
pub made-node : {E : Type 0} (made : Result NodeValue E) (P : NodeValue → Type 0) (inner node : NodeValue) → IfOk made (λ n. n ≡ inner) → inner ≡ node → P node → IfOk made P
made-node made P inner node is same holds = IfOk-weaker made (λ n. n ≡ inner) P (λ n here. subst P (sym (here ∙ same)) holds) is

-- a child is less high than the folder
pub kid-lower : (kids : List (List ℕ × NodeValue)) (name : List ℕ) (kid : NodeValue) → lookup (is_at (name_cmp name)) kids ≡ Some kid → kid.height + 1 ≤ height_of kids
kid-lower [] name kid has = absurd (none-some kid has)
kid-lower (k ∷ ks) name kid has = by_name (is_at (name_cmp name) k.0) k.1 (lookup (is_at (name_cmp name)) ks) (height_of ks) kid has (kid-lower ks name kid)
  where
    by_name : (b : Bool) (v : NodeValue) (r : Option NodeValue) (h : ℕ) (kid : NodeValue) → cond b (Some v) r ≡ Some kid → (r ≡ Some kid → kid.height + 1 ≤ h) → kid.height + 1 ≤ max (v.height + 1) h
    by_name true v r h kid e rest = let same : v.height ≡ kid.height = ap (λ n. n.height) (same_Some v kid e) in omega arith
    by_name false v r h kid e rest = let low : kid.height + 1 ≤ h = rest e in omega arith

pub found-lower : (kids : List (List ℕ × NodeValue)) (name : List ℕ) (kid : NodeValue) → find name_cmp name kids ≡ Some kid → kid.height + 1 ≤ height_of kids
found-lower kids name kid found = kid-lower kids name kid (lookup-find name kids ∙ found)

-- ---- the node at a path

-- what a search for the node at a path finds: none where nothing stands there, else the node of what is below it
abbrev pub IsFound : NodeValue → List (List ℕ) → Option NodeValue → Type 0
IsFound value path found = MatchOption found (get (map_of value) path ≡ None) (λ node. IsBelow (map_of value) path (map_of node))

-- what is found in the child of the first name is found
pub at-kid : (value : NodeValue) (path : List (List ℕ)) (name : List ℕ) (kid : NodeValue) (found : Option NodeValue) → 1 ≤ length path → name ≡ get_or path 0 name → IsBelowName value name (Some kid)
    → IsFound kid (take (length path - 1) (drop 1 path)) found → IsFound value path found
at-kid value path name kid None more first below none = get-kid value path name (Some kid) more first below ∙ none
at-kid value path name kid (Some node) more first below lies =
    record { at = λ q. lies.at q ∙ sym (below (take (length path - 1) (drop 1 path) ++ q)) ∙ (λ i. get (map_of value) (sym (path-parts path name more first) i ++ q)) }
