-- Laws of trees laid over each other.
use Rattle.std.specs.Prelude.{◌≡◌, ℕ, Bool, true, false, cond, Option, Some, None, List, [], ◌∷◌, ◌++◌}
use Rattle.std.proofs.Common.{sym, ap, refl, ◌∙◌, true≢false}
use Rattle.std.specs.Ordering.{eq_by_cmp}
use Rattle.std.specs.List.{fold}
use Rattle.std.specs.Option.{option_or}
use Rattle.std.specs.FinMap.{get}
use Rattle.paths.specs.Order.{path_cmp}
use Rattle.trees.specs.declared.entry.Entry.{Entry}
use Rattle.trees.specs.declared.entry.Entry.TheVariants.{Directory}
use Rattle.trees.specs.TreeMap.{TreeMap, IsTree, is_directory, is_blocked, empty_tree, directory_meta}
use Rattle.trees.specs.Over.{over, merged}
use Rattle.trees.proofs.TreeLaws.{same_tree, get-over, get-empty_tree}

fold-append : (tree : TreeMap) (trees more : List TreeMap) → fold over (fold over tree trees) more ≡ fold over tree (trees ++ more)
fold-append tree [] more = refl
fold-append tree (t ∷ ts) more = fold-append (over tree t) ts more

-- a merge as the first of a merge is replaced by its trees; it has one at least
pub merged-first : (tree : TreeMap) (trees more : List TreeMap) → merged (merged (tree ∷ trees) ∷ more) ≡ merged (tree ∷ trees ++ more)
merged-first tree trees more = fold-append tree trees more

nothing_else : (q : List (List ℕ)) (e : Entry) (u : Option Entry) (shut : Bool) → (q ≡ [] → is_directory u ≡ true) → option_or u (cond shut None (cond (eq_by_cmp path_cmp q []) (Some e) None)) ≡ u
nothing_else q e (Some x) shut root = refl
nothing_else [] e None shut root = absurd (true≢false (sym (root refl)))
nothing_else (c ∷ cs) e None true root = refl
nothing_else (c ∷ cs) e None false root = refl

-- laid over the empty tree, a tree is itself
pub over-empty : (tree : TreeMap) → IsTree tree → over empty_tree tree ≡ tree
over-empty tree is = same_tree _ _ (λ q.
    get-over empty_tree tree q
    ∙ (λ i. option_or (get tree q) (cond (is_blocked (get tree) q) None (get-empty_tree q i)))
    ∙ nothing_else q (Directory directory_meta) (get tree q) (is_blocked (get tree) q) (λ e. ap (λ p. is_directory (get tree p)) e ∙ is.root))
