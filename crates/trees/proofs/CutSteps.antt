-- One step down a path that is to go.
use Rattle.std.specs.Prelude.{◌≡◌, ℕ, ◌-◌, ◌<◌, ◌≤◌, Bool, true, false, ◌&&◌, ◌==◌, cond, Option, Some, None, List, [], ◌∷◌, length, get_or, take, drop, is_some, option_and_then, Ok}
use Rattle.std.proofs.Common.{sym, ap, refl, ◌∙◌, subst, true≢false, arith}
use Rattle.std.proofs.lemmas.Bool.{eqb-true}
use Rattle.trees.specs.Copy.{kind_of}
use Rattle.std.specs.Map.{lookup}
use Rattle.std.specs.BTreeMap.{is_at}
use Rattle.std.specs.Ordering.{eq_by_cmp}
use Rattle.std.specs.FinMap.{get, find}
use Rattle.paths.specs.Path.{is_at_or_under}
use Rattle.trees.specs.declared.entry.Entry.{Entry}
use Rattle.trees.specs.declared.cause.Cause.TheVariants.{F1}
use Rattle.paths.specs.Order.{name_cmp}
use Rattle.trees.specs.TreeMap.{TreeMap, IsTree}
use Rattle.trees.specs.PrivateNode.{NodeValue, map_of, joined, node_of}
use Rattle.paths.proofs.FrontLaws.{name_same}
use Rattle.trees.specs.Remove.{without, remove_cause, removed}
use Rattle.trees.specs.PrivateNode.{IsCut, AreCut, AreKids}
use Rattle.trees.proofs.CauseLaws.{tree_or-none}
use Rattle.trees.proofs.RemoveLaws.{under-cons, without-from_cut, without-IsTree}
use Rattle.trees.proofs.NodeLaws.{get-map_of_root, get-map_of_cons, get-joined, lookup-find}
use Rattle.trees.proofs.NodeSteps.{at_kid, path-parts}

pub kids-kept : (old new : List (List ℕ × NodeValue)) (name : List ℕ) → new ≡ old → None ≡ lookup (is_at (name_cmp name)) old → AreKids old new name None
kids-kept old new name same none = record { at = λ d. ap (find name_cmp d) same ∙ by d (eq_by_cmp name_cmp d name) refl }
  where
    by : (d : List ℕ) (tie : Bool) → eq_by_cmp name_cmp d name ≡ tie → find name_cmp d old ≡ cond tie None (find name_cmp d old)
    by d true t = ap (λ c. find name_cmp c old) (name_same d name t) ∙ sym (none ∙ lookup-find name old)
    by d false t = refl

pub cut-all : (o : Option NodeValue) → IsCut (at_kid o) (at_kid None) []
cut-all o = record { at = λ q. refl }

pub cut-empty : (o : Option NodeValue) (rest : List (List ℕ)) (told : Bool) → told ≡ (length rest == 0) → told ≡ true → IsCut (at_kid o) (at_kid None) rest
cut-empty o [] told is t = cut-all o
cut-empty o (c ∷ cs) told is t = absurd (omega (arith, eqb-true (length (c ∷ cs)) 0 (sym is ∙ t)))

pub long-path : (a : List (List ℕ)) (told : Bool) → told ≡ (length a == 0) → told ≡ false → 0 < length a
long-path [] told is f = absurd (true≢false (sym is ∙ f))
long-path (c ∷ cs) told is f = omega arith

pub there-of : (o : Option Entry) (kind : Option Bool) (b : Bool) → kind ≡ kind_of o → kind ≡ Some b → is_some o ≡ true
there-of None kind b is some = absurd (true≢false (sym (ap is_some (sym is ∙ some))))
there-of (Some e) kind b is some = refl

pub missing-of : (o : Option Entry) (kind : Option Bool) → kind ≡ kind_of o → kind ≡ None → is_some o ≡ false
missing-of None kind is none = refl
missing-of (Some e) kind is none = absurd (true≢false (ap is_some (sym is ∙ none)))

pub cut-none : (rest : List (List ℕ)) → IsCut (at_kid None) (at_kid None) rest
cut-none rest = record { at = λ q. none (is_at_or_under q rest) }
  where
    none : (b : Bool) → None ≡ cond {A = Option Entry} b None None
    none true = refl
    none false = refl

pulled : (b : Bool) (f : NodeValue → Option Entry) (x o : Option NodeValue) → option_and_then f (cond b x o) ≡ cond b (option_and_then f x) (option_and_then f o)
pulled true f x o = refl
pulled false f x o = refl

one_name : (tie under : Bool) (now old : Option Entry) → (tie ≡ true → now ≡ cond under None old) → cond tie now old ≡ cond (tie && under) None old
one_name true under now old h = h refl
one_name false under now old h = refl

-- a child in which a path was cut, or none, is among children in which it was cut
pub cut-kid : (old_kids kids : List (List ℕ × NodeValue)) (name : List ℕ) (rest : List (List ℕ)) (kid found : Option NodeValue) → found ≡ lookup (is_at (name_cmp name)) old_kids → AreKids old_kids kids name kid → IsCut (at_kid found) (at_kid kid) rest → AreCut (joined old_kids) (joined kids) name rest
cut-kid old_kids kids name rest kid found has changed h =
    record {
      at = λ d ds.
          get-joined kids d ds
          ∙ ap (λ o. at_kid o ds) (changed.at d)
          ∙ pulled (eq_by_cmp name_cmp d name) (λ v. get (map_of v) ds) kid (find name_cmp d old_kids)
          ∙ one_name (eq_by_cmp name_cmp d name) (is_at_or_under ds rest) (at_kid kid ds) (at_kid (find name_cmp d old_kids) ds)
          (λ tie. h.at ds ∙ ap (λ o. cond (is_at_or_under ds rest) None (at_kid o ds)) (has ∙ lookup-find name old_kids ∙ ap (λ c. find name_cmp c old_kids) (sym (name_same d name tie))))
          ∙ (λ i. cond (sym (under-cons d name ds rest) i) None (sym (get-joined old_kids d ds) i));
    }

-- and children in which a path was cut make a node in which it was cut
pub cut-step : (value : NodeValue) (top : Entry) (old_kids kids : List (List ℕ × NodeValue)) (path : List (List ℕ)) (name : List ℕ) → node_of top old_kids ≡ value → 1 ≤ length path → name ≡ get_or path 0 name → AreCut (joined old_kids) (joined kids) name (take (length path - 1) (drop 1 path))
    → IsCut (get (map_of value)) (get (map_of (node_of top kids))) path
cut-step value top old_kids kids path name is more first h = record { at = λ q. cut_at q ∙ (λ i. cond (is_at_or_under q (sym (path-parts path name more first) i)) None (get (map_of value) q)) }
  where
    cut_at : (q : List (List ℕ)) → get (map_of (node_of top kids)) q ≡ cond (is_at_or_under q (name ∷ take (length path - 1) (drop 1 path))) None (get (map_of value) q)
    cut_at [] = get-map_of_root (node_of top kids) ∙ sym ((λ i. get (map_of (sym is i)) []) ∙ get-map_of_root (node_of top old_kids))
    cut_at (d ∷ ds) =
        get-map_of_cons (node_of top kids) d ds ∙ h.at d ds
        ∙ ap (cond (is_at_or_under (d ∷ ds) (name ∷ take (length path - 1) (drop 1 path))) None) (sym (get-map_of_cons (node_of top old_kids) d ds) ∙ (λ i. get (map_of (is i)) (d ∷ ds)))

-- the tree's call

pub remove-done : (old new : TreeMap) (p a : List (List ℕ)) (value : TreeMap) → old ≡ value → a ≡ p → 0 < length a → is_some (get old a) ≡ true → IsCut (get old) (get new) a → removed value p ≡ Ok new
remove-done old new p a value view same long there h =
    tree_or-none (remove_cause value p) (without value p) new
    ((λ i. remove_cause (sym view i) (sym same i)) ∙ fine a long there) (without-from_cut old new a h ∙ (λ i. without (view i) (same i)))
  where
    fine : (a : List (List ℕ)) → 0 < length a → is_some (get old a) ≡ true → remove_cause old a ≡ None
    fine [] l t = absurd (omega arith)
    fine (c ∷ cs) l t = ap (λ b. cond b None (Some F1)) t

pub remove-tree : (old new : TreeMap) (a : List (List ℕ)) → IsTree old → 0 < length a → IsCut (get old) (get new) a → IsTree new
remove-tree old new a tree long h = subst IsTree (sym (without-from_cut old new a h)) (by a long)
  where
    by : (a : List (List ℕ)) → 0 < length a → IsTree (without old a)
    by [] l = absurd (omega arith)
    by (c ∷ cs) l = without-IsTree old c cs tree

pub remove-missing : (old : TreeMap) (p a : List (List ℕ)) → a ≡ p → is_some (get old a) ≡ false → remove_cause old p ≡ Some F1
remove-missing old p a same none = ap (remove_cause old) (sym same) ∙ by a none
  where
    by : (a : List (List ℕ)) → is_some (get old a) ≡ false → remove_cause old a ≡ Some F1
    by [] n = refl
    by (c ∷ cs) n = ap (λ b. cond b None (Some F1)) n
