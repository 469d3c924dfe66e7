-- Laws of a removal: what stands at each path after it, and that it leaves a tree.
use Rattle.std.specs.Prelude.{◌≡◌, ℕ, Bool, true, false, ◌&&◌, not, cond, Option, None, Ok, List, [], ◌∷◌, ◌++◌, is_some}
use Rattle.std.proofs.Common.{sym, ap, refl, ◌∙◌, subst, true≢false, append_assoc}
use Rattle.std.specs.Cmp.{eq_by_cmp_equiv}
use Rattle.std.specs.Cmp.Lexicographic.{texts_ties, nat_list_cmp_total}
use Rattle.std.specs.Ordering.{eq_by_cmp}
use Rattle.std.specs.FinMap.{get, get-retain_keys}
use Rattle.paths.specs.OrderLaws.{path_cmp-IsAntisymmetric}
use Rattle.paths.specs.Path.{is_at_or_under}
use Rattle.paths.proofs.PathLaws.{under_iff}
use Rattle.trees.specs.declared.entry.Entry.{Entry}
use Rattle.paths.specs.Fronts.{is_front}
use Rattle.paths.specs.Order.{name_cmp}
use Rattle.trees.specs.TreeMap.{TreeMap, IsTree, is_directory}
use Rattle.trees.specs.Remove.{without, remove_cause, removed}
use Rattle.trees.specs.PrivateNode.{IsCut}
use Rattle.trees.proofs.CauseLaws.{tree_or-ok}
use Rattle.paths.proofs.FrontLaws.{front-parts}
use Rattle.trees.proofs.TreeLaws.{same_tree}

turned : (b : Bool) (o : Option Entry) → cond (not b) o None ≡ cond b None o
turned true o = refl
turned false o = refl

pub get-without : (tree : TreeMap) (path q : List (List ℕ)) → get (without tree path) q ≡ cond (is_at_or_under q path) None (get tree q)
get-without tree path q =
    get-retain_keys tree (λ p. not (is_at_or_under p path)) q (λ x tie. ap (λ p. not (is_at_or_under p path)) (sym (path_cmp-IsAntisymmetric q x tie)))
    ∙ turned (is_at_or_under q path) (get tree q)

pub without-from_cut : (old new : TreeMap) (path : List (List ℕ)) → IsCut (get old) (get new) path → new ≡ without old path
without-from_cut old new path h = same_tree _ _ (λ q. h.at q ∙ sym (get-without old path q))

-- the first names decide whether a path lies under another, and then the rest
pub under-cons : (d name : List ℕ) (ds rest : List (List ℕ)) → is_at_or_under (d ∷ ds) (name ∷ rest) ≡ (eq_by_cmp name_cmp d name && is_at_or_under ds rest)
under-cons d name ds rest = ap (λ b. b && is_at_or_under ds rest) (texts_ties name d ∙ (eq_by_cmp_equiv nat_list_cmp_total).symm name d)

pub not-under-root : (name : List ℕ) (rest : List (List ℕ)) → is_at_or_under [] (name ∷ rest) ≡ false
not-under-root name rest = refl

kept : (b : Bool) (o : Option Entry) → is_some (cond b None o) ≡ true → (b ≡ false) × (is_some o ≡ true)
kept true o s = absurd (true≢false (sym s))
kept false o s = (refl, s)

by_bool : (b : Bool) → (b ≡ true → ⊥) → b ≡ false
by_bool true h = absurd (h refl)
by_bool false h = refl

front-kept : (f q path : List (List ℕ)) → is_front f q ≡ true → is_at_or_under q path ≡ false → is_at_or_under f path ≡ false
front-kept f q path g n = by_bool _ (λ u.
    let rest = (under_iff f path).0 u in
    let more = front-parts f q g in
    true≢false (sym ((under_iff q path).1 (rest.0 ++ more.0 ∷ more.1.0, more.1.1 ∙ ap (λ x. x ++ more.0 ∷ more.1.0) rest.1 ∙ append_assoc path rest.0 (more.0 ∷ more.1.0))) ∙ n))

-- a tree without a path that isn't the root is a tree
pub without-IsTree : (tree : TreeMap) (c : List ℕ) (cs : List (List ℕ)) → IsTree tree → IsTree (without tree (c ∷ cs))
without-IsTree tree c cs h = record {
  clean = λ q s. h.clean q (kept _ _ (ap is_some (sym (get-without tree (c ∷ cs) q)) ∙ s)).1;
  root = ap is_directory (get-without tree (c ∷ cs) []) ∙ h.root;
  parents = λ f q g s.
      let there = kept (is_at_or_under q (c ∷ cs)) (get tree q) (ap is_some (sym (get-without tree (c ∷ cs) q)) ∙ s) in
      ap is_directory (get-without tree (c ∷ cs) f) ∙ ap (λ b. is_directory (cond b None (get tree f))) (front-kept f q (c ∷ cs) g there.0) ∙ h.parents f q g there.1;
}

-- what stands at each path after a removal
pub get-removed : (tree new : TreeMap) (path q : List (List ℕ)) → removed tree path ≡ Ok new → get new q ≡ cond (is_at_or_under q path) None (get tree q)
get-removed tree new path q done =
    ap (λ m. get m q) (sym (tree_or-ok (remove_cause tree path) (without tree path) new done).1) ∙ get-without tree path q

-- and that it leaves a tree
pub removed-IsTree : (tree new : TreeMap) (path : List (List ℕ)) → IsTree tree → removed tree path ≡ Ok new → IsTree new
removed-IsTree tree new [] h done = cc
removed-IsTree tree new (c ∷ cs) h done =
    subst IsTree (tree_or-ok (remove_cause tree (c ∷ cs)) (without tree (c ∷ cs)) new done).1 (without-IsTree tree c cs h)
