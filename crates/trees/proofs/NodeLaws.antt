-- What stands at each path of a node, by its children.
use Rattle.std.specs.Prelude.{◌≡◌, ℕ, Bool, true, false, ◌&&◌, not, cond, Option, Some, None, List, [], ◌∷◌, option_and_then}
use Rattle.std.proofs.Common.{sym, ap, refl, ◌∙◌}
use Rattle.std.specs.Option.{option_or}
use Rattle.std.specs.Ordering.{eq_by_cmp}
use Rattle.std.specs.Map.{lookup}
use Rattle.std.specs.BTreeMap.{is_at}
use Rattle.std.specs.FinMap.{get, entries, retain_keys, find, get-empty, get-insert, get-retain_keys, get-entries}
use Rattle.paths.specs.OrderLaws.{path_cmp_total, path_cmp-IsAntisymmetric}
use Rattle.paths.specs.Order.{path_cmp}
use Rattle.trees.specs.declared.entry.Entry.{Entry}
use Rattle.paths.specs.Order.{name_cmp}
use Rattle.trees.specs.TreeMap.{TreeMap}
use Rattle.trees.specs.PrivateNode.{NodeValue, map_of, begins_with, below_name, joined}
use Rattle.paths.proofs.FrontLaws.{path_eq-cons}
use Rattle.trees.proofs.TreeLaws.{get-insert_all}

pub get-map_of_root : (n : NodeValue) → get (map_of n) [] ≡ Some n.top
get-map_of_root n = get-insert path_cmp_total n.below [] n.top []

pub get-map_of_cons : (n : NodeValue) (c : List ℕ) (cs : List (List ℕ)) → get (map_of n) (c ∷ cs) ≡ get n.below (c ∷ cs)
get-map_of_cons n c cs = get-insert path_cmp_total n.below [] n.top (c ∷ cs)

nested : {A : Type 0} (a b : Bool) (x y z : A) → cond (a && b) x (cond a y z) ≡ cond a (cond b x y) z
nested true b x y z = refl
nested false b x y z = refl

no_entry : (b : Bool) → cond {A = Option Entry} b None None ≡ None
no_entry true = refl
no_entry false = refl

pub find-below_name : (k c : List ℕ) (cs : List (List ℕ)) (rows : List (List (List ℕ) × Entry)) → find path_cmp (c ∷ cs) (below_name k rows) ≡ cond (eq_by_cmp name_cmp c k) (find path_cmp cs rows) None
find-below_name k c cs [] = sym (no_entry (eq_by_cmp name_cmp c k))
find-below_name k c cs (row ∷ rows) =
    (λ i. cond (path_eq-cons c k cs row.0 i) (Some row.1) (find-below_name k c cs rows i)) ∙ nested (eq_by_cmp name_cmp c k) (eq_by_cmp path_cmp cs row.0) (Some row.1) (find path_cmp cs rows) None

pub find-below_name_root : (k : List ℕ) (rows : List (List (List ℕ) × Entry)) → find path_cmp [] (below_name k rows) ≡ None
find-below_name_root k [] = refl
find-below_name_root k (row ∷ rows) = find-below_name_root k rows

get-others : (k : List ℕ) (tree : TreeMap) (q : List (List ℕ)) → get (retain_keys tree (λ p. not (begins_with k p))) q ≡ cond (not (begins_with k q)) (get tree q) None
get-others k tree q = get-retain_keys tree (λ p. not (begins_with k p)) q (λ x tie. ap (λ p. not (begins_with k p)) (sym (path_cmp-IsAntisymmetric q x tie)))

one_kid : (tie : Bool) (o rest : Option Entry) (f : NodeValue → Option Entry) (v : NodeValue) (r : Option NodeValue) → o ≡ f v → rest ≡ option_and_then f r → option_or (cond tie o None) (cond (not tie) rest None) ≡ option_and_then f (cond tie (Some v) r)
one_kid true None rest f v r e g = e
one_kid true (Some x) rest f v r e g = e
one_kid false o rest f v r e g = g

pub get-joined_root : (kids : List (List ℕ × NodeValue)) → get (joined kids) [] ≡ None
get-joined_root [] = get-empty path_cmp []
get-joined_root (kid ∷ kids) =
    get-insert_all (below_name kid.0 (entries (map_of kid.1))) (retain_keys (joined kids) (λ p. not (begins_with kid.0 p))) []
    ∙ (λ i. option_or (find-below_name_root kid.0 (entries (map_of kid.1)) i) (get-others kid.0 (joined kids) [] i))
    ∙ get-joined_root kids

-- what stands below a node is what stands in the child of the path's first name
pub get-joined : (kids : List (List ℕ × NodeValue)) (c : List ℕ) (cs : List (List ℕ)) → get (joined kids) (c ∷ cs) ≡ option_and_then (λ v. get (map_of v) cs) (find name_cmp c kids)
get-joined [] c cs = get-empty path_cmp (c ∷ cs)
get-joined (kid ∷ kids) c cs =
    get-insert_all (below_name kid.0 (entries (map_of kid.1))) (retain_keys (joined kids) (λ p. not (begins_with kid.0 p))) (c ∷ cs)
    ∙ (λ i. option_or (find-below_name kid.0 c cs (entries (map_of kid.1)) i) (get-others kid.0 (joined kids) (c ∷ cs) i))
    ∙ one_kid (eq_by_cmp name_cmp c kid.0) _ _ (λ v. get (map_of v) cs) kid.1 (find name_cmp c kids) (sym (get-entries (map_of kid.1) cs)) (get-joined kids c cs)

-- a map's look-up and a list's
pub lookup-find : {X : Type 0} (q : List ℕ) (es : List (List ℕ × X)) → lookup (is_at (name_cmp q)) es ≡ find name_cmp q es
lookup-find q [] = refl
lookup-find q (e ∷ es) = ap (cond (eq_by_cmp name_cmp q e.0) (Some e.1)) (lookup-find q es)
