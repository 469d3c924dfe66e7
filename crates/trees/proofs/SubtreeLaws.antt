-- Laws of subtrees: what stands at each of their paths, and that they are trees.
use Rattle.std.specs.Prelude.{◌≡◌, ℕ, ◌+◌, Bool, true, false, ◌&&◌, cond, Option, Some, None, Ok, Err, List, [], ◌∷◌, ◌++◌, is_some, length, nat_eq, nat_le}
use Rattle.std.proofs.Common.{sym, ap, refl, ◌∙◌, true≢false, arith, append-nil, length-append}
use Rattle.std.proofs.lemmas.List.Folds.{list_all-append}
use Rattle.std.specs.Ordering.{eq_by_cmp}
use Rattle.std.specs.List.{list_all}
use Rattle.std.specs.Cmp.Lexicographic.{pointwise, texts_ties}
use Rattle.std.specs.FinMap.{get, entries, find, get-entries, get-from_entries}
use Rattle.paths.specs.OrderLaws.{path_cmp_total}
use Rattle.paths.specs.Order.{path_cmp}
use Rattle.paths.specs.Path.{IsClean, is_name}
use Rattle.trees.specs.declared.entry.Entry.{Entry}
use Rattle.trees.specs.declared.entry.Entry.TheVariants.{Directory, File}
use Rattle.trees.specs.declared.cause.Cause.TheVariants.{F1, F2}
use Rattle.paths.specs.Fronts.{is_front}
use Rattle.trees.specs.TreeMap.{TreeMap, IsTree, is_directory, is_file, is_blocked}
use Rattle.trees.specs.PrivateNode.{IsBelow}
use Rattle.trees.specs.Subtree.{map_below, path_below, with_entry, entries_below, directory_tree, subtree}
use Rattle.paths.proofs.FrontLaws.{path_eq-cons, both_second, both_hold, name_itself}
use Rattle.trees.proofs.WayLaws.{open-from_fronts}
use Rattle.trees.proofs.TreeLaws.{same_tree, file-from_directory}

-- a row is found by its path from top as it is by its whole path
row-below : (q p : List (List ℕ)) (entry : Entry) (rest : List (List (List ℕ) × Entry)) (o : Option Entry) (top : List (List ℕ)) → find path_cmp q rest ≡ o
    → find path_cmp q (with_entry (path_below top p) entry rest) ≡ cond (eq_by_cmp path_cmp (top ++ q) p) (Some entry) o
row-below q p entry rest o [] same = ap (cond (eq_by_cmp path_cmp q p) (Some entry)) same
row-below q [] entry rest o (d ∷ ds) same = same
row-below q (c ∷ cs) entry rest o (d ∷ ds) same =
    by_name (pointwise nat_eq d c) (path_below ds cs) (eq_by_cmp path_cmp (ds ++ q) cs) same (row-below q cs entry rest o ds same)
    ∙ ap (λ b. cond (b && eq_by_cmp path_cmp (ds ++ q) cs) (Some entry) o) (texts_ties d c) ∙ ap (λ b. cond b (Some entry) o) (sym (path_eq-cons d c (ds ++ q) cs))
  where
    by_name : (b : Bool) (below : Option (List (List ℕ))) (there : Bool) → find path_cmp q rest ≡ o → find path_cmp q (with_entry below entry rest) ≡ cond there (Some entry) o
        → find path_cmp q (with_entry (cond b below None) entry rest) ≡ cond (b && there) (Some entry) o
    by_name true below there none found = found
    by_name false below there none found = none

pub find-below : (top q : List (List ℕ)) (rows : List (List (List ℕ) × Entry)) → find path_cmp q (entries_below top rows) ≡ find path_cmp (top ++ q) rows
find-below top q [] = refl
find-below top q (row ∷ rows) = row-below q row.0 row.1 (entries_below top rows) (find path_cmp (top ++ q) rows) top (find-below top q rows)

-- what stands at each path of a map of the entries below top
pub entries_below-IsBelow : (tree : TreeMap) (top : List (List ℕ)) → IsBelow tree top (map_below tree top)
entries_below-IsBelow tree top = record { at = λ q. get-from_entries path_cmp_total (entries_below top (entries tree)) q ∙ find-below top q (entries tree) ∙ sym (get-entries tree (top ++ q)) }

-- one map alone lies below a path
pub same-below : (tree : TreeMap) (top : List (List ℕ)) (one other : TreeMap) → IsBelow tree top one → IsBelow tree top other → one ≡ other
same-below tree top one other h g = same_tree one other (λ q. h.at q ∙ sym (g.at q))

pub own-below : (tree : TreeMap) (top : List (List ℕ)) (below : TreeMap) → IsBelow tree top below → get tree top ≡ get below []
own-below tree top below h = ap (get tree) (sym (append-nil top)) ∙ sym (h.at [])

-- ---- what a subtree is

missing : (o : Option Entry) (m : TreeMap) → o ≡ None → directory_tree o m ≡ Err F1
missing o m e = ap (λ x. directory_tree x m) e

pub subtree-missing : (tree : TreeMap) (top : List (List ℕ)) → get tree top ≡ None → subtree tree top ≡ Err F1
subtree-missing tree top none = missing (get tree top) (map_below tree top) none

of_file : (o : Option Entry) (m : TreeMap) → is_file o ≡ true → directory_tree o m ≡ Err F2
of_file None m f = absurd (true≢false (sym f))
of_file (Some (Directory meta)) m f = absurd (true≢false (sym f))
of_file (Some (File meta content)) m f = refl

pub subtree-file : (tree : TreeMap) (top : List (List ℕ)) → is_file (get tree top) ≡ true → subtree tree top ≡ Err F2
subtree-file tree top f = of_file (get tree top) (map_below tree top) f

of_directory : (o : Option Entry) (m below : TreeMap) → is_directory o ≡ true → m ≡ below → directory_tree o m ≡ Ok below
of_directory None m below d same = absurd (true≢false (sym d))
of_directory (Some (Directory meta)) m below d same = ap Ok same
of_directory (Some (File meta content)) m below d same = absurd (true≢false (sym d))

pub subtree-directory : (tree : TreeMap) (top : List (List ℕ)) (below : TreeMap) → is_directory (get tree top) ≡ true → IsBelow tree top below → subtree tree top ≡ Ok below
subtree-directory tree top below d h =
    of_directory (get tree top) (map_below tree top) below d (same-below tree top _ below (entries_below-IsBelow tree top) h)

-- what it means that there is a subtree
pub record IsShown (tree : TreeMap) (top : List (List ℕ)) (below : TreeMap) : Type 0 where
  pub directory : is_directory (get tree top) ≡ true
  pub at : (q : List (List ℕ)) → get below q ≡ get tree (top ++ q)

shown-by : (o : Option Entry) (m below : TreeMap) → directory_tree o m ≡ Ok below → (is_directory o ≡ true) × (m ≡ below)
shown-by None m below e = cc
shown-by (Some (File meta content)) m below e = cc
shown-by (Some (Directory meta)) m below e = (refl, cc)

pub subtree-shown : (tree : TreeMap) (top : List (List ℕ)) (below : TreeMap) → subtree tree top ≡ Ok below → IsShown tree top below
subtree-shown tree top below e =
    let is = shown-by (get tree top) (map_below tree top) below e in
    record { directory = is.0; at = λ q. ap (λ m. get m q) (sym is.1) ∙ (entries_below-IsBelow tree top).at q }

-- the whole tree lies under its root
pub subtree-root : (tree : TreeMap) → IsTree tree → subtree tree [] ≡ Ok tree
subtree-root tree h = subtree-directory tree [] tree h.root (record { at = λ q. refl })

-- where something stands in a tree, no file stands on the way
pub way-open : (tree : TreeMap) (top : List (List ℕ)) → IsTree tree → is_some (get tree top) ≡ true → is_blocked (get tree) top ≡ false
way-open tree top h some = open-from_fronts (get tree) top (λ f g. file-from_directory (get tree f) (h.parents f top g some))

-- nothing stands below a file
nothing-blocked : (tree : TreeMap) (top : List (List ℕ)) (o : Option Entry) → IsTree tree → is_blocked (get tree) top ≡ true → get tree top ≡ o → o ≡ None
nothing-blocked tree top None h way is = refl
nothing-blocked tree top (Some entry) h way is =
    absurd (true≢false (sym way ∙ open-from_fronts (get tree) top (λ f g. file-from_directory (get tree f) (h.parents f top g (ap is_some is)))))

-- so where a file stands on the way to a path, the path is missing
pub subtree-blocked : (tree : TreeMap) (top : List (List ℕ)) → IsTree tree → is_blocked (get tree) top ≡ true → subtree tree top ≡ Err F1
subtree-blocked tree top h way = subtree-missing tree top (nothing-blocked tree top (get tree top) h way refl)

-- ---- a subtree is a tree

front-below : (top front path : List (List ℕ)) → is_front front path ≡ true → is_front (top ++ front) (top ++ path) ≡ true
front-below [] front path g = g
front-below (d ∷ ds) front path g = both_hold _ _ (name_itself d) (front-below ds front path g)

pub clean-below : (top path : List (List ℕ)) → IsClean (top ++ path) → IsClean path
clean-below top path h =
    let longer : length (top ++ path) ≡ length top + length path = length-append top path in
    record {
      names = both_second (list_all is_name top) _ (sym (list_all-append is_name top path) ∙ h.names);
      short = both_second (list_all (λ c. nat_le (length c) 255) top) _ (sym (list_all-append (λ c. nat_le (length c) 255) top path) ∙ h.short);
      few = omega (arith, h.few);
    }

pub below-IsTree : (tree : TreeMap) (top : List (List ℕ)) (below : TreeMap) → IsTree tree → is_directory (get tree top) ≡ true → IsBelow tree top below → IsTree below
below-IsTree tree top below h d lies = record {
  clean = λ path s. clean-below top path (h.clean (top ++ path) (ap is_some (sym (lies.at path)) ∙ s));
  root = ap is_directory (sym (own-below tree top below lies)) ∙ d;
  parents = λ front path g s. ap is_directory (lies.at front) ∙ h.parents (top ++ front) (top ++ path) (front-below top front path g) (ap is_some (sym (lies.at path)) ∙ s);
}

pub subtree-IsTree : (tree : TreeMap) (top : List (List ℕ)) (below : TreeMap) → IsTree tree → subtree tree top ≡ Ok below → IsTree below
subtree-IsTree tree top below h e = let is = subtree-shown tree top below e in below-IsTree tree top below h is.directory (record { at = is.at })
