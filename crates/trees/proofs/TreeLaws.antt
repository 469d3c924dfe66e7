-- Laws of trees: what stands at each path after a placement and in trees laid over each other, and that all of them are trees.
use Rattle.std.specs.Prelude.{◌≡◌, ℕ, Bool, true, false, ◌||◌, not, cond, Option, Some, None, Ok, ◌⊎◌, List, [], ◌∷◌, is_some, nat_lt, length}
use Rattle.std.proofs.Common.{sym, ap, refl, ◌∙◌, subst, true≢false, arith, inl, inr}
use Rattle.std.specs.Option.{option_or}
use Rattle.std.specs.Ordering.{eq_by_cmp}
use Rattle.std.specs.List.{list_any, AllByRecursion, fold}
use Rattle.std.specs.FinMap.{get, insert, empty, entries, retain_keys, find, get-empty, get-insert, get-retain_keys, get-entries, same_map}
use Rattle.paths.specs.OrderLaws.{path_cmp_total, path_cmp-IsAntisymmetric}
use Rattle.paths.specs.Order.{path_cmp}
use Rattle.paths.specs.Path.{IsClean}
use Rattle.trees.specs.declared.meta.Meta.{Meta}
use Rattle.trees.specs.declared.entry.Entry.{Entry}
use Rattle.trees.specs.declared.entry.Entry.TheVariants.{Directory, File}
use Rattle.trees.specs.declared.cause.Cause.TheVariants.{F2, F5}
use Rattle.paths.specs.Fronts.{is_front, fronts}
use Rattle.trees.specs.TreeMap.{TreeMap, IsTree, is_directory, is_file, is_blocked, directory_meta, empty_tree}
use Rattle.trees.specs.Put.{clash_of, cause_at, with_missing, placed, planted, put_into}
use Rattle.trees.specs.Over.{insert_all, over, merged}
use Rattle.trees.proofs.CauseLaws.{tree_or-ok}
use Rattle.paths.proofs.FrontLaws.{path_same, front-irrefl, front-trans, no-front-of-root, any-fronts, clean-front}
use Rattle.trees.proofs.WayLaws.{open-front, open-up}

-- trees that have the same entry at each path are one
pub same_tree : (m n : TreeMap) → ((q : List (List ℕ)) → get m q ≡ get n q) → m ≡ n
same_tree = same_map path_cmp_total path_cmp-IsAntisymmetric

or_none : (o : Option Entry) → o ≡ option_or o None
or_none None = refl
or_none (Some e) = refl

-- one more directory where nothing stood
one_missing : (d : Entry) (m tree : TreeMap) (p q : List (List ℕ)) (front : Bool) → get m q ≡ option_or (get tree q) (cond front (Some d) None)
    → (o : Option Entry) → get tree p ≡ o → (tie : Bool) → eq_by_cmp path_cmp q p ≡ tie
    → get (cond (is_some o) m (insert m p d)) q ≡ option_or (get tree q) (cond (tie || front) (Some d) None)
one_missing d m tree p q front rest (Some e) is true t =
    let there : get tree q ≡ Some e = ap (get tree) (path_same q p t) ∙ is in
    rest ∙ ap (λ (x : Option Entry). option_or x (cond front (Some d) None)) there ∙ sym (ap (λ (x : Option Entry). option_or x (Some d)) there)
one_missing d m tree p q front rest (Some e) is false t = rest
one_missing d m tree p q front rest None is true t =
    let there : get tree q ≡ None = ap (get tree) (path_same q p t) ∙ is in
    get-insert path_cmp_total m p d q ∙ ap (λ b. cond b (Some d) (get m q)) t ∙ sym (ap (λ (x : Option Entry). option_or x (Some d)) there)
one_missing d m tree p q front rest None is false t =
    get-insert path_cmp_total m p d q ∙ ap (λ b. cond b (Some d) (get m q)) t ∙ rest

pub get-with_missing : (meta : Meta) (paths : List (List (List ℕ))) (tree : TreeMap) (q : List (List ℕ)) → get (with_missing meta paths tree) q ≡ option_or (get tree q) (cond (list_any (eq_by_cmp path_cmp q) paths) (Some (Directory meta)) None)
get-with_missing meta [] tree q = or_none (get tree q)
get-with_missing meta (p ∷ ps) tree q = one_missing (Directory meta) (with_missing meta ps tree) tree p q _ (get-with_missing meta ps tree q) (get tree p) refl (eq_by_cmp path_cmp q p) refl

-- what stands at each path after a placement
pub get-placed : (meta : Meta) (tree : TreeMap) (p : List (List ℕ)) (e : Entry) (q : List (List ℕ)) → get (placed meta tree p e) q ≡ planted (get tree) p meta e q
get-placed meta tree p e q =
    get-insert path_cmp_total (with_missing meta (fronts p) tree) p e q
    ∙ ap (cond (eq_by_cmp path_cmp q p) (Some e)) (get-with_missing meta (fronts p) tree q ∙ ap (λ b. option_or (get tree q) (cond b (Some (Directory meta)) None)) (any-fronts q p))

-- a map with more rows: the first row of a path counts, else what stood there
pub get-insert_all : (rows : List (List (List ℕ) × Entry)) (tree : TreeMap) (q : List (List ℕ)) → get (insert_all rows tree) q ≡ option_or (find path_cmp q rows) (get tree q)
get-insert_all [] tree q = refl
get-insert_all (row ∷ rows) tree q =
    get-insert path_cmp_total (insert_all rows tree) row.0 row.1 q
    ∙ ap (cond (eq_by_cmp path_cmp q row.0) (Some row.1)) (get-insert_all rows tree q)
    ∙ first (eq_by_cmp path_cmp q row.0)
  where
    first : (b : Bool) → cond b (Some row.1) (option_or (find path_cmp q rows) (get tree q)) ≡ option_or (cond b (Some row.1) (find path_cmp q rows)) (get tree q)
    first true = refl
    first false = refl

-- what stands at each path of two trees laid over each other
pub get-over : (lower upper : TreeMap) (q : List (List ℕ)) → get (over lower upper) q ≡ option_or (get upper q) (cond (is_blocked (get upper) q) None (get lower q))
get-over lower upper q =
    get-insert_all (entries upper) (retain_keys lower (λ p. not (is_blocked (get upper) p))) q
    ∙ (λ i. option_or (sym (get-entries upper q) i) (get-retain_keys lower (λ p. not (is_blocked (get upper) p)) q (λ x tie. ap (λ p. not (is_blocked (get upper) p)) (sym (path_cmp-IsAntisymmetric q x tie))) i))
    ∙ turned (is_blocked (get upper) q)
  where
    turned : (b : Bool) → option_or (get upper q) (cond (not b) (get lower q) None) ≡ option_or (get upper q) (cond b None (get lower q))
    turned true = refl
    turned false = refl

-- ---- what stands where

some_false : (b : Bool) → b ≡ true → b ≡ false → ⊥
some_false b t f = true≢false (sym t ∙ f)

-- an entry that is no file is a directory
directory-from_some : (o : Option Entry) → is_some o ≡ true → is_file o ≡ false → is_directory o ≡ true
directory-from_some None s f = s
directory-from_some (Some (Directory m)) s f = refl
directory-from_some (Some (File m c)) s f = absurd (true≢false f)

some-from_directory : (o : Option Entry) → is_directory o ≡ true → is_some o ≡ true
some-from_directory None d = d
some-from_directory (Some e) d = refl

pub file-from_directory : (o : Option Entry) → is_directory o ≡ true → is_file o ≡ false
file-from_directory None d = refl
file-from_directory (Some (Directory m)) d = refl
file-from_directory (Some (File m c)) d = absurd (true≢false (sym d))

-- what takes a directory's place without a fault is a directory
directory-from_clash : (o : Option Entry) (e : Entry) → clash_of o e ≡ None → is_directory o ≡ true → is_directory (Some e) ≡ true
directory-from_clash None e c d = absurd (true≢false (sym d))
directory-from_clash (Some (Directory m)) (Directory n) c d = refl
directory-from_clash (Some (Directory m)) (File n b) c d = absurd (true≢false (ap is_some c))
directory-from_clash (Some (File m b)) e c d = absurd (true≢false (sym d))

-- what it means that a placement has no cause to fail
pub record IsFree (at : List (List ℕ) → Option Entry) (p : List (List ℕ)) (e : Entry) : Type 0 where
  pub few : nat_lt 64 (length p) ≡ false
  pub way : is_blocked at p ≡ false
  pub clash : clash_of (at p) e ≡ None

pub free-from_cause : (at : List (List ℕ) → Option Entry) (p : List (List ℕ)) (e : Entry) → cause_at at p e ≡ None → IsFree at p e
free-from_cause at p e none = by (nat_lt 64 (length p)) refl (is_blocked at p) refl none
  where
    by : (deep : Bool) → nat_lt 64 (length p) ≡ deep → (shut : Bool) → is_blocked at p ≡ shut → cond deep (Some F5) (cond shut (Some F2) (clash_of (at p) e)) ≡ None → IsFree at p e
    by true d shut s is = absurd (true≢false (ap is_some is))
    by false d true s is = absurd (true≢false (ap is_some is))
    by false d false s is = record { few = d; way = s; clash = is }

-- ---- placements keep trees

-- where something stands after a placement: at its path, where something stood, or at a front of its path
planted-some : (o : Option Entry) (d e : Entry) (q p : List (List ℕ)) (tie : Bool) → eq_by_cmp path_cmp q p ≡ tie → (front : Bool) → is_front q p ≡ front
    → is_some (cond tie (Some e) (option_or o (cond front (Some d) None))) ≡ true → (q ≡ p) ⊎ ((is_some o ≡ true) ⊎ (is_front q p ≡ true))
planted-some o d e q p true t front f s = inl (path_same q p t)
planted-some (Some x) d e q p false t front f s = inr (inl refl)
planted-some None d e q p false t true f s = inr (inr f)
planted-some None d e q p false t false f s = absurd (true≢false (sym s))

-- a directory stands after a placement where one stood, or where it was missing
planted-directory : (o : Option Entry) (meta : Meta) (e : Entry) (tie front : Bool) → (tie ≡ true → is_directory (Some e) ≡ true) → (is_directory o ≡ true) ⊎ ((is_file o ≡ false) × (front ≡ true))
    → is_directory (cond tie (Some e) (option_or o (cond front (Some (Directory meta)) None))) ≡ true
planted-directory o meta e true front here else = here refl
planted-directory (Some x) meta e false front here (inl d) = d
planted-directory None meta e false front here (inl d) = absurd (true≢false (sym d))
planted-directory (Some x) meta e false front here (inr (f, g)) = directory-from_some (Some x) refl f
planted-directory None meta e false true here (inr h) = refl
planted-directory None meta e false false here (inr (f, g)) = absurd (true≢false (sym g))

-- a tree after a placement that has no cause to fail is a tree
module _ (meta : Meta) (m : TreeMap) (p : List (List ℕ)) (e : Entry) (tree : IsTree m) (clean : IsClean p) (free : IsFree (get m) p e) where
  stands : (q : List (List ℕ)) → is_some (get (placed meta m p e) q) ≡ true → (q ≡ p) ⊎ ((is_some (get m q) ≡ true) ⊎ (is_front q p ≡ true))
  stands q s = planted-some (get m q) (Directory meta) e q p _ refl _ refl (ap is_some (sym (get-placed meta m p e q)) ∙ s)

  is_dir : (f : List (List ℕ)) → (f ≡ p → is_directory (Some e) ≡ true) → (is_directory (get m f) ≡ true) ⊎ ((is_file (get m f) ≡ false) × (is_front f p ≡ true)) → is_directory (get (placed meta m p e) f) ≡ true
  is_dir f here else = ap is_directory (get-placed meta m p e f) ∙ planted-directory (get m f) meta e (eq_by_cmp path_cmp f p) (is_front f p) (λ t. here (path_same f p t)) else

  no_self : (q : List (List ℕ)) → q ≡ p → is_front q p ≡ true → ⊥
  no_self q is g = true≢false (sym g ∙ ap (λ x. is_front x p) is ∙ front-irrefl p)

  all_clean : (q : List (List ℕ)) → (q ≡ p) ⊎ ((is_some (get m q) ≡ true) ⊎ (is_front q p ≡ true)) → IsClean q
  all_clean q (inl is) = subst IsClean (sym is) clean
  all_clean q (inr (inl s)) = tree.clean q s
  all_clean q (inr (inr g)) = clean-front q p g clean

  all_parents : (f q : List (List ℕ)) → is_front f q ≡ true → (q ≡ p) ⊎ ((is_some (get m q) ≡ true) ⊎ (is_front q p ≡ true)) → is_directory (get (placed meta m p e) f) ≡ true
  all_parents f q g (inl is) =
      let g' : is_front f p ≡ true = subst (λ (x : List (List ℕ)). is_front f x ≡ true) is g in
      is_dir f (λ same. absurd (no_self f same g')) (inr (open-front (get m) f p free.way g', g'))
  all_parents f q g (inr (inl s)) =
      is_dir f (λ same. directory-from_clash (get m p) e free.clash (tree.parents p q (subst (λ (x : List (List ℕ)). is_front x q ≡ true) same g) s)) (inl (tree.parents f q g s))
  all_parents f q g (inr (inr h)) =
      let g' = front-trans f q p g h in
      is_dir f (λ same. absurd (no_self f same g')) (inr (open-front (get m) f p free.way g', g'))

  pub placed-IsTree : IsTree (placed meta m p e)
  placed-IsTree = record {
    clean = λ q s. all_clean q (stands q s);
    root = is_dir [] (λ same. directory-from_clash (get m p) e free.clash (subst (λ (x : List (List ℕ)). is_directory (get m x) ≡ true) same tree.root)) (inl tree.root);
    parents = λ f q g s. all_parents f q g (stands q s);
  }

-- ---- trees laid over each other are a tree

either_stands : (x y : Option Entry) (b : Bool) → is_some (option_or x (cond b None y)) ≡ true → (is_some x ≡ true) ⊎ ((b ≡ false) × (is_some y ≡ true))
either_stands (Some e) y b s = inl refl
either_stands None y true s = absurd (true≢false (sym s))
either_stands None y false s = inr (refl, s)

either_directory : (x y : Option Entry) (b : Bool) → is_file x ≡ false → b ≡ false → is_directory y ≡ true → is_directory (option_or x (cond b None y)) ≡ true
either_directory (Some e) y b f way d = directory-from_some (Some e) refl f
either_directory None y true f way d = absurd (true≢false way)
either_directory None y false f way d = d

upper_directory : (x y : Option Entry) → is_directory x ≡ true → is_directory (option_or x y) ≡ true
upper_directory (Some e) y d = d
upper_directory None y d = absurd (true≢false (sym d))

module _ (lower upper : TreeMap) (low : IsTree lower) (up : IsTree upper) where
  lies : (q : List (List ℕ)) → is_some (get (over lower upper) q) ≡ true → (is_some (get upper q) ≡ true) ⊎ ((is_blocked (get upper) q ≡ false) × (is_some (get lower q) ≡ true))
  lies q s = either_stands (get upper q) (get lower q) (is_blocked (get upper) q) (ap is_some (sym (get-over lower upper q)) ∙ s)

  over_clean : (q : List (List ℕ)) → (is_some (get upper q) ≡ true) ⊎ ((is_blocked (get upper) q ≡ false) × (is_some (get lower q) ≡ true)) → IsClean q
  over_clean q (inl s) = up.clean q s
  over_clean q (inr (w, s)) = low.clean q s

  over_parents : (f q : List (List ℕ)) → is_front f q ≡ true → (is_some (get upper q) ≡ true) ⊎ ((is_blocked (get upper) q ≡ false) × (is_some (get lower q) ≡ true)) → is_directory (get (over lower upper) f) ≡ true
  over_parents f q g (inl s) = ap is_directory (get-over lower upper f) ∙ upper_directory _ _ (up.parents f q g s)
  over_parents f q g (inr (w, s)) =
      ap is_directory (get-over lower upper f) ∙ either_directory (get upper f) (get lower f) (is_blocked (get upper) f) (open-front (get upper) f q w g) (open-up (get upper) f q w g) (low.parents f q g s)

  pub over-IsTree : IsTree (over lower upper)
  over-IsTree = record {
    clean = λ q s. over_clean q (lies q s);
    root = ap is_directory (get-over lower upper []) ∙ upper_directory _ _ up.root;
    parents = λ f q g s. over_parents f q g (lies q s);
  }

pub get-empty_tree : (q : List (List ℕ)) → get empty_tree q ≡ cond (eq_by_cmp path_cmp q []) (Some (Directory directory_meta)) None
get-empty_tree q = get-insert path_cmp_total empty [] (Directory directory_meta) q ∙ ap (cond (eq_by_cmp path_cmp q []) (Some (Directory directory_meta))) (get-empty path_cmp q)

only_root : (q : List (List ℕ)) → is_some (cond (eq_by_cmp path_cmp q []) (Some (Directory directory_meta)) None) ≡ true → IsClean q
only_root [] s = record { names = refl; short = refl; few = omega arith }
only_root (c ∷ cs) s = absurd (true≢false (sym s))

none_below : (f q : List (List ℕ)) → is_front f q ≡ true → is_some (cond (eq_by_cmp path_cmp q []) (Some (Directory directory_meta)) None) ≡ true → ⊥
none_below f [] g s = true≢false (sym g ∙ no-front-of-root f)
none_below f (c ∷ cs) g s = true≢false (sym s)

pub empty-IsTree : IsTree empty_tree
empty-IsTree = record {
  clean = λ q s. only_root q (ap is_some (sym (get-empty_tree q)) ∙ s);
  root = ap is_directory (get-empty_tree []);
  parents = λ f q g s. absurd (none_below f q g (ap is_some (sym (get-empty_tree q)) ∙ s));
}

pub get-put : (tree new : TreeMap) (path q : List (List ℕ)) (entry : Entry) → put_into tree path entry ≡ Ok new → get new q ≡ planted (get tree) path directory_meta entry q
get-put tree new path q entry done =
    ap (λ m. get m q) (sym (tree_or-ok (cause_at (get tree) path entry) (placed directory_meta tree path entry) new done).1) ∙ get-placed directory_meta tree path entry q

pub put-IsTree : (tree new : TreeMap) (path : List (List ℕ)) (entry : Entry) → IsTree tree → IsClean path → put_into tree path entry ≡ Ok new → IsTree new
put-IsTree tree new path entry h clean done =
    let is = tree_or-ok (cause_at (get tree) path entry) (placed directory_meta tree path entry) new done in
    subst IsTree is.1 (placed-IsTree directory_meta tree path entry h clean (free-from_cause (get tree) path entry is.0))

folded-IsTree : (tree : TreeMap) (trees : List TreeMap) → IsTree tree → AllByRecursion IsTree trees → IsTree (fold over tree trees)
folded-IsTree tree [] h hs = h
folded-IsTree tree (t ∷ ts) h hs = folded-IsTree (over tree t) ts (over-IsTree tree t h hs.0) hs.1

pub merged-IsTree : (trees : List TreeMap) → AllByRecursion IsTree trees → IsTree (merged trees)
merged-IsTree [] hs = empty-IsTree
merged-IsTree (tree ∷ trees) hs = folded-IsTree tree trees hs.0 hs.1
