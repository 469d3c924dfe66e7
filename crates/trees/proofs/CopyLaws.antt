-- Laws of COPY: what stands at each path after it, and one change more.
use Rattle.std.specs.Prelude.{◌≡◌, ℕ, Bool, true, false, ◌||◌, cond, Option, Some, None, List, [], ◌∷◌, ◌++◌, is_some}
use Rattle.std.proofs.Common.{sym, ap, refl, ◌∙◌, true≢false, append-nil, append_assoc}
use Rattle.std.specs.List.{list_any}
use Rattle.std.specs.Option.{option_or}
use Rattle.std.specs.Ordering.{eq_by_cmp}
use Rattle.std.specs.FinMap.{get, insert, get-insert}
use Rattle.paths.specs.OrderLaws.{path_cmp_total}
use Rattle.paths.specs.Order.{path_cmp}
use Rattle.trees.specs.declared.meta.Meta.{Meta}
use Rattle.trees.specs.declared.entry.Entry.{Entry}
use Rattle.trees.specs.declared.entry.Entry.TheVariants.{Directory}
use Rattle.trees.specs.declared.copy.Change.{Change}
use Rattle.trees.specs.declared.copy.Change.TheVariants.{Place, Make}
use Rattle.paths.specs.Fronts.{is_front, fronts}
use Rattle.trees.specs.TreeMap.{TreeMap, IsTree, is_directory}
use Rattle.trees.specs.Put.{with_missing, placed}
use Rattle.trees.specs.Make.{with_directory}
use Rattle.trees.specs.Copy.{placed_by, last_placed, directories_for, directories_for_all, needs_directory, with_placements, changed_tree, kind_of, kind_placed}
use Rattle.trees.specs.PrivateCopy.{with_change, kind_by}
use Rattle.paths.proofs.FrontLaws.{any-fronts, path_same}
use Rattle.trees.proofs.TreeLaws.{same_tree, get-placed, get-with_missing}

-- ---- what stands where

chosen : (o : Option Entry) (b : Bool) (e : Entry) (x : Option Entry) → option_or o (cond b (Some e) x) ≡ option_or (option_or o (cond b (Some e) None)) x
chosen (Some y) b e x = refl
chosen None true e x = refl
chosen None false e x = refl

skipped : (o x : Option Entry) → option_or o x ≡ option_or (option_or o None) x
skipped None x = refl
skipped (Some e) x = refl

or_none : (o : Option Entry) → o ≡ option_or o None
or_none None = refl
or_none (Some e) = refl

or_assoc : (a b c : Option Entry) → option_or (option_or a b) c ≡ option_or a (option_or b c)
or_assoc None b c = refl
or_assoc (Some e) b c = refl

get-with_placements : (tree : TreeMap) (changes : List Change) (q : List (List ℕ)) → get (with_placements tree changes) q ≡ option_or (last_placed changes q) (get tree q)
get-with_placements tree [] q = refl
get-with_placements tree (Place p e ∷ changes) q = get-with_placements (insert tree p e) changes q ∙ ap (option_or (last_placed changes q)) (get-insert path_cmp_total tree p e q) ∙ chosen (last_placed changes q) (eq_by_cmp path_cmp q p) e (get tree q)
get-with_placements tree (Make d ∷ changes) q = get-with_placements tree changes q ∙ skipped (last_placed changes q) (get tree q)

-- what stands at each path of the map of a list of changes: the last entry placed there; else what stood there; else a directory on
-- the way
pub get-changed_tree : (meta : Meta) (tree : TreeMap) (changes : List Change) (q : List (List ℕ)) → get (changed_tree meta tree changes) q ≡ option_or (last_placed changes q) (option_or (get tree q) (cond (needs_directory changes q) (Some (Directory meta)) None))
get-changed_tree meta tree changes q = get-with_placements (with_missing meta (directories_for_all changes) tree) changes q ∙ ap (option_or (last_placed changes q)) (get-with_missing meta (directories_for_all changes) tree q)

pub last_placed-more : (changes : List Change) (change : Change) (q : List (List ℕ)) → last_placed (changes ++ change ∷ []) q ≡ option_or (placed_by change q) (last_placed changes q)
last_placed-more [] change q = or_none (placed_by change q)
last_placed-more (x ∷ xs) change q = ap (λ o. option_or o (placed_by x q)) (last_placed-more xs change q) ∙ or_assoc (placed_by change q) (last_placed xs q) (placed_by x q)

directories_for_all-more : (changes : List Change) (change : Change) → directories_for_all (changes ++ change ∷ []) ≡ directories_for_all changes ++ directories_for change
directories_for_all-more [] change = append-nil (directories_for change)
directories_for_all-more (x ∷ xs) change = ap (λ ps. directories_for x ++ ps) (directories_for_all-more xs change) ∙ sym (append_assoc (directories_for x) (directories_for_all xs) (directories_for change))

pub any-append : (test : List (List ℕ) → Bool) (ps qs : List (List (List ℕ))) → list_any test (ps ++ qs) ≡ (list_any test ps || list_any test qs)
any-append test [] qs = refl
any-append test (p ∷ ps) qs = ap (λ b. test p || b) (any-append test ps qs) ∙ grouped (test p) (list_any test ps) (list_any test qs)
  where
    grouped : (a b c : Bool) → (a || (b || c)) ≡ ((a || b) || c)
    grouped true b c = refl
    grouped false b c = refl

pub needs_directory-more : (changes : List Change) (change : Change) (q : List (List ℕ)) → needs_directory (changes ++ change ∷ []) q ≡ (needs_directory changes q || list_any (eq_by_cmp path_cmp q) (directories_for change))
needs_directory-more changes change q = ap (list_any (eq_by_cmp path_cmp q)) (directories_for_all-more changes change) ∙ any-append (eq_by_cmp path_cmp q) (directories_for_all changes) (directories_for change)

place-cases : (tie front wide : Bool) (l t : Option Entry) (e d : Entry) → option_or (option_or (cond tie (Some e) None) l) (option_or t (cond (wide || front) (Some d) None)) ≡ cond tie (Some e) (option_or (option_or l (option_or t (cond wide (Some d) None))) (cond front (Some d) None))
place-cases true front wide l t e d = refl
place-cases false front wide (Some x) t e d = refl
place-cases false front wide None (Some x) e d = refl
place-cases false front true None None e d = refl
place-cases false front false None None e d = refl

make-cases : (way wide : Bool) (l t : Option Entry) (d : Entry) → option_or l (option_or t (cond (wide || way) (Some d) None)) ≡ option_or (option_or l (option_or t (cond wide (Some d) None))) (cond way (Some d) None)
make-cases way wide (Some x) t d = refl
make-cases way wide None (Some x) d = refl
make-cases way true None None d = refl
make-cases way false None None d = refl

get-more : (meta : Meta) (tree : TreeMap) (changes : List Change) (change : Change) (q : List (List ℕ))
    → get (changed_tree meta tree (changes ++ change ∷ [])) q ≡ option_or (option_or (placed_by change q) (last_placed changes q)) (option_or (get tree q) (cond (needs_directory changes q || list_any (eq_by_cmp path_cmp q) (directories_for change)) (Some (Directory meta)) None))
get-more meta tree changes change q =
    get-changed_tree meta tree (changes ++ change ∷ []) q ∙ (λ i. option_or (last_placed-more changes change q i) (option_or (get tree q) (cond (needs_directory-more changes change q i) (Some (Directory meta)) None)))

-- one change more is one step more
pub changed_tree-more : (meta : Meta) (tree : TreeMap) (changes : List Change) (change : Change) → changed_tree meta tree (changes ++ change ∷ []) ≡ with_change meta (changed_tree meta tree changes) change
changed_tree-more meta tree changes (Place p e) = same_tree _ _ (λ q.
    get-more meta tree changes (Place p e) q
    ∙ (λ i. option_or (option_or (cond (eq_by_cmp path_cmp q p) (Some e) None) (last_placed changes q)) (option_or (get tree q) (cond (needs_directory changes q || any-fronts q p i) (Some (Directory meta)) None)))
    ∙ place-cases (eq_by_cmp path_cmp q p) (is_front q p) (needs_directory changes q) (last_placed changes q) (get tree q) e (Directory meta)
    ∙ (λ i. cond (eq_by_cmp path_cmp q p) (Some e) (option_or (sym (get-changed_tree meta tree changes q) i) (cond (is_front q p) (Some (Directory meta)) None)))
    ∙ sym (get-placed meta (changed_tree meta tree changes) p e q))
changed_tree-more meta tree changes (Make d) = same_tree _ _ (λ q.
    get-more meta tree changes (Make d) q
    ∙ make-cases (list_any (eq_by_cmp path_cmp q) (fronts d ++ d ∷ [])) (needs_directory changes q) (last_placed changes q) (get tree q) (Directory meta)
    ∙ (λ i. option_or (sym (get-changed_tree meta tree changes q) i) (cond (list_any (eq_by_cmp path_cmp q) (fronts d ++ d ∷ [])) (Some (Directory meta)) None))
    ∙ sym (get-with_missing meta (fronts d ++ d ∷ []) (changed_tree meta tree changes) q))

-- of no changes, nothing changes
pub changed_tree-none : (meta : Meta) (tree : TreeMap) → changed_tree meta tree [] ≡ tree
changed_tree-none meta tree = refl

kind-or : (a b : Option Entry) → kind_of (option_or a b) ≡ option_or (kind_of a) (kind_of b)
kind-or None b = refl
kind-or (Some e) b = refl

pub kind_placed-more : (changes : List Change) (change : Change) (q : List (List ℕ)) → kind_placed (changes ++ change ∷ []) q ≡ option_or (kind_by change q) (kind_placed changes q)
kind_placed-more changes change q = ap kind_of (last_placed-more changes change q) ∙ kind-or (placed_by change q) (last_placed changes q)

-- ---- a making

way-fronts : (q d : List (List ℕ)) → list_any (eq_by_cmp path_cmp q) (fronts d ++ d ∷ []) ≡ (is_front q d || (eq_by_cmp path_cmp q d || false))
way-fronts q d = any-append (eq_by_cmp path_cmp q) (fronts d) (d ∷ []) ∙ ap (λ b. b || (eq_by_cmp path_cmp q d || false)) (any-fronts q d)

pub way-either : (q d : List (List ℕ)) → list_any (eq_by_cmp path_cmp q) (fronts d ++ d ∷ []) ≡ (is_front q d || eq_by_cmp path_cmp q d)
way-either q d = way-fronts q d ∙ ap (λ b. is_front q d || b) (or_false (eq_by_cmp path_cmp q d))
  where
    or_false : (b : Bool) → (b || false) ≡ b
    or_false true = refl
    or_false false = refl

-- what stands at each path of a tree with a directory more
pub get-with_directory : (meta : Meta) (tree : TreeMap) (d q : List (List ℕ)) → get (with_directory meta tree d) q ≡ option_or (get tree q) (cond (is_front q d || eq_by_cmp path_cmp q d) (Some (Directory meta)) None)
get-with_directory meta tree d q =
    get-with_missing meta (fronts d ++ d ∷ []) tree q ∙ (λ i. option_or (get tree q) (cond (way-either q d i) (Some (Directory meta)) None))

new-cases : (tie front : Bool) (o : Option Entry) (d : Entry) → (tie ≡ true → o ≡ None) → option_or o (cond (front || (tie || false)) (Some d) None) ≡ cond tie (Some d) (option_or o (cond front (Some d) None))
new-cases true true o d none = ap (λ x. option_or x (Some d)) (none refl)
new-cases true false o d none = ap (λ x. option_or x (Some d)) (none refl)
new-cases false true o d none = refl
new-cases false false o d none = refl

-- where nothing stands, a directory is placed
pub with_directory-new : (meta : Meta) (tree : TreeMap) (d : List (List ℕ)) → get tree d ≡ None → with_directory meta tree d ≡ placed meta tree d (Directory meta)
with_directory-new meta tree d none = same_tree _ _ (λ q.
    get-with_missing meta (fronts d ++ d ∷ []) tree q
    ∙ (λ i. option_or (get tree q) (cond (way-fronts q d i) (Some (Directory meta)) None))
    ∙ new-cases (eq_by_cmp path_cmp q d) (is_front q d) (get tree q) (Directory meta) (λ tie. ap (get tree) (path_same q d tie) ∙ none)
    ∙ sym (get-placed meta tree d (Directory meta) q))

kept-cases : (way : Bool) (o : Option Entry) (d : Entry) → (way ≡ true → is_some o ≡ true) → option_or o (cond way (Some d) None) ≡ o
kept-cases way (Some e) d some = refl
kept-cases true None d some = absurd (true≢false (sym (some refl)))
kept-cases false None d some = refl

some_directory : (o : Option Entry) → is_directory o ≡ true → is_some o ≡ true
some_directory None d = d
some_directory (Some e) d = refl

stands-way : (tree : TreeMap) (q d : List (List ℕ)) (front tie : Bool) → IsTree tree → is_directory (get tree d) ≡ true → is_front q d ≡ front → eq_by_cmp path_cmp q d ≡ tie → (front || (tie || false)) ≡ true → is_some (get tree q) ≡ true
stands-way tree q d true tie is there f t w = some_directory _ (is.parents q d f (some_directory _ there))
stands-way tree q d false true is there f t w = ap (λ p. is_some (get tree p)) (path_same q d t) ∙ some_directory _ there
stands-way tree q d false false is there f t w = absurd (true≢false (sym w))

-- where a directory stands, nothing changes
pub with_directory-kept : (meta : Meta) (tree : TreeMap) (d : List (List ℕ)) → IsTree tree → is_directory (get tree d) ≡ true → with_directory meta tree d ≡ tree
with_directory-kept meta tree d is there = same_tree _ _ (λ q.
    get-with_missing meta (fronts d ++ d ∷ []) tree q
    ∙ (λ i. option_or (get tree q) (cond (way-fronts q d i) (Some (Directory meta)) None))
    ∙ kept-cases (is_front q d || (eq_by_cmp path_cmp q d || false)) (get tree q) (Directory meta) (stands-way tree q d _ _ is there refl refl))
