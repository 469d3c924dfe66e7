-- A tree after a COPY is a tree; COPY of one file is one placement; COPY into the empty tree.
use Rattle.std.specs.Prelude.{◌≡◌, ℕ, ◌-◌, ◌≤◌, Bool, true, false, ◌&&◌, ◌||◌, not, cond, Option, Some, None, Result, Ok, Err, List, [], ◌∷◌, ◌++◌, is_some, drop, length, nat_lt, nat_le}
use Rattle.std.proofs.Common.{sym, ap, refl, ◌∙◌, subst, true≢false, append-nil, append_assoc, zero, suc}
use Rattle.std.specs.List.{list_any, list_all, AllByRecursion}
use Rattle.std.specs.Option.{option_or}
use Rattle.std.specs.Ordering.{eq_by_cmp}
use Rattle.std.specs.FinMap.{get, entries, find, get-entries}
use Rattle.std.proofs.lemmas.Bool.{ltb-false, le-ltb}
use Rattle.std.proofs.lemmas.List.Folds.{list_all-append}
use Rattle.paths.specs.Order.{path_cmp}
use Rattle.paths.specs.Path.{IsClean, is_name}
use Rattle.paths.specs.Long.{AreNames}
use Rattle.trees.specs.declared.meta.Meta.{Meta}
use Rattle.trees.specs.declared.entry.Entry.{Entry}
use Rattle.trees.specs.declared.entry.Entry.TheVariants.{Directory, File}
use Rattle.trees.specs.declared.copy.CopyOptions.{CopyOptions}
use Rattle.trees.specs.declared.copy.Source.{Source}
use Rattle.trees.specs.declared.copy.Source.TheVariants.{Found, Data}
use Rattle.trees.specs.declared.copy.Change.{Change}
use Rattle.trees.specs.declared.copy.Change.TheVariants.{Place, Make}
use Rattle.trees.specs.declared.cause.Cause.{Cause}
use Rattle.trees.specs.declared.cause.Cause.TheVariants.{F1, F3, F5}
use Rattle.trees.specs.TreeMap.{TreeMap, IsTree, is_directory, empty_tree, directory_meta}
use Rattle.trees.specs.Put.{cause_at, placed}
use Rattle.trees.specs.Copy.{placed_entry, parent_meta, last_placed, kind_of, file_path, placements, match_changes, path_changes, paths_changes, source_changes, changes_of, changed_tree, needs_directory, is_repeated, kind_placed, change_cause, first_cause, is_missing, goes_into, tree_of_changes, copied, HasName, is_repeated_by}
use Rattle.trees.specs.Cause.{tree_or}
use Rattle.trees.specs.Subtree.{map_below}
use Rattle.trees.specs.PrivateCopy.{with_change, IsNamed}
use Rattle.trees.proofs.CopyLaws.{changed_tree-more, get-changed_tree, kind_placed-more}
use Rattle.trees.proofs.SubtreeLaws.{entries_below-IsBelow, below-IsTree}
use Rattle.paths.proofs.FrontLaws.{path_itself, path_same, both_second, both_hold}
use Rattle.trees.proofs.TreeLaws.{placed-IsTree, free-from_cause, get-empty_tree}
use Rattle.trees.proofs.CopySteps.{free-placement, with_directory-IsTree}

-- ---- the paths of a COPY's changes have names only

names-of : (p : List (List ℕ)) → IsClean p → AreNames p
names-of p h = record { names = h.names; short = h.short }

names-append : (p q : List (List ℕ)) → AreNames p → AreNames q → AreNames (p ++ q)
names-append p q h g = record {
  names = list_all-append is_name p q ∙ both_hold _ _ h.names g.names;
  short = list_all-append (λ c. nat_le (length c) 255) p q ∙ both_hold _ _ h.short g.short;
}

all-drop : (test : List ℕ → Bool) (n : ℕ) (p : List (List ℕ)) → list_all test p ≡ true → list_all test (drop n p) ≡ true
all-drop test zero p h = h
all-drop test (suc n) [] h = h
all-drop test (suc n) (c ∷ cs) h = all-drop test n cs (both_second (test c) _ h)

names-drop : (n : ℕ) (p : List (List ℕ)) → AreNames p → AreNames (drop n p)
names-drop n p h = record { names = all-drop is_name n p h.names; short = all-drop (λ c. nat_le (length c) 255) n p h.short }

names-place : (into : Bool) (dest name : List (List ℕ)) → AreNames dest → AreNames name → AreNames (file_path into dest name)
names-place true dest name h g = names-append dest name h g
names-place false dest name h g = h

abbrev pub Rows : Type 0
Rows = List (List (List ℕ) × Entry)

found-more : (tie : Bool) (e : Entry) (o : Option Entry) → is_some o ≡ true → is_some (cond tie (Some e) o) ≡ true
found-more true e o s = refl
found-more false e o s = s

rows-found : (rows all : Rows) → ((q : List (List ℕ)) → is_some (find path_cmp q rows) ≡ true → is_some (find path_cmp q all) ≡ true) → AllByRecursion (λ row. is_some (find path_cmp row.0 all) ≡ true) rows
rows-found [] all in_all = tt
rows-found (row ∷ rows) all in_all = (
  in_all row.0 (ap (λ b. is_some (cond b (Some row.1) (find path_cmp row.0 rows))) (path_itself row.0)),
  rows-found rows all (λ q s. in_all q (found-more (eq_by_cmp path_cmp q row.0) row.1 (find path_cmp q rows) s)),
)

named-rows : (o : CopyOptions) (dest : List (List ℕ)) (m : TreeMap) (rows : Rows) → AreNames dest → IsTree m → AllByRecursion (λ row. is_some (find path_cmp row.0 (entries m)) ≡ true) rows → AllByRecursion IsNamed (placements o dest rows)
named-rows o dest m [] h tree all = tt
named-rows o dest m (row ∷ rows) h tree all = (names-append dest row.0 h (names-of row.0 (tree.clean row.0 (ap is_some (get-entries m row.0) ∙ all.0))), named-rows o dest m rows h tree all.1)

drop-first : (P : List (List ℕ) × Entry → Type 0) (rows : Rows) → AllByRecursion P rows → AllByRecursion P (drop 1 rows)
drop-first P [] h = tt
drop-first P (row ∷ rows) h = h.1

pub all-join : (xs ys : List Change) → AllByRecursion IsNamed xs → AllByRecursion IsNamed ys → AllByRecursion IsNamed (xs ++ ys)
all-join [] ys h g = g
all-join (x ∷ xs) ys h g = (h.0, all-join xs ys h.1 g)

module _ (o : CopyOptions) (into : Bool) (from : TreeMap) (dest : List (List ℕ)) (tree : IsTree from) (clean : IsClean dest) where
  pub named-match : (path : List (List ℕ)) (there : Option Entry) → get from path ≡ there → AllByRecursion IsNamed (match_changes o into dest path there (entries (map_below from path)))
  named-match path None is = tt
  named-match path (Some (File meta content)) is = (names-place into dest _ (names-of dest clean) (names-drop (length path - 1) path (names-of path (tree.clean path (ap is_some is)))), tt)
  named-match path (Some (Directory meta)) is = (
    clean,
    named-rows o dest (map_below from path) _ (names-of dest clean) (below-IsTree from path (map_below from path) tree (ap is_directory is) (entries_below-IsBelow from path))
        (drop-first _ (entries (map_below from path)) (rows-found (entries (map_below from path)) (entries (map_below from path)) (λ q s. s))),
  )

  named-paths : (paths : List (List (List ℕ))) → AllByRecursion IsNamed (paths_changes o into from dest paths)
  named-paths [] = tt
  named-paths (path ∷ paths) = all-join (path_changes o into from dest path) _ (named-match path (get from path) refl) (named-paths paths)

  named-source : (source : Source) → HasName source → AllByRecursion IsNamed (source_changes o into from dest source)
  named-source (Found paths) h = named-paths paths
  named-source (Data name content) h = (names-place into dest (name ∷ []) (names-of dest clean) (names-of (name ∷ []) h), tt)

  pub named-items : (sources : List Source) → AllByRecursion HasName sources → AllByRecursion IsNamed (changes_of o into from dest sources)
  named-items [] h = tt
  named-items (source ∷ sources) h = all-join (source_changes o into from dest source) _ (named-source source h.0) (named-items sources h.1)

-- ---- a tree stays a tree

shallow : (p : List (List ℕ)) (deep : Bool) (x : Option Cause) → nat_lt 64 (length p) ≡ deep → cond deep (Some F5) x ≡ None → length p ≤ 64
shallow p true x d none = absurd (true≢false (ap is_some none))
shallow p false x d none = ltb-false 64 (length p) d

pub stepped-IsTree : (meta : Meta) (tree : TreeMap) (change : Change) (before : List (List ℕ) → Option Bool) → IsTree tree → IsNamed change → change_cause before (get tree) change ≡ None → IsTree (with_change meta tree change)
stepped-IsTree meta tree (Place p e) before h named none =
    placed-IsTree meta tree p e h (record { names = named.names; short = named.short; few = shallow p _ _ refl none }) (free-from_cause (get tree) p e (free-placement (get tree) p e _ _ none))
stepped-IsTree meta tree (Make p) before h named none = with_directory-IsTree meta tree p h named none

first-none : (a b : Option Cause) → option_or a b ≡ None → (a ≡ None) × (b ≡ None)
first-none None b e = (refl, e)
first-none (Some c) b e = absurd (true≢false (ap is_some e))

pub laid-more : (meta : Meta) (tree : TreeMap) (before changes : List Change) → IsTree (changed_tree meta tree before) → AllByRecursion IsNamed changes → first_cause meta tree before changes ≡ None → IsTree (changed_tree meta tree (before ++ changes))
laid-more meta tree before [] h named none = subst (λ (is : List Change). IsTree (changed_tree meta tree is)) (sym (append-nil before)) h
laid-more meta tree before (change ∷ changes) h named none =
    let both = first-none (change_cause (kind_placed before) (get (changed_tree meta tree before)) change) (first_cause meta tree (before ++ change ∷ []) changes) none in
    subst (λ (is : List Change). IsTree (changed_tree meta tree is)) (append_assoc before (change ∷ []) changes)
    (laid-more meta tree (before ++ change ∷ []) changes (subst IsTree (sym (changed_tree-more meta tree before change)) (stepped-IsTree meta (changed_tree meta tree before) change (kind_placed before) h named.0 both.0)) named.1 both.1)

told : (cause : Option Cause) (tree new : TreeMap) → tree_or cause tree ≡ Ok new → (cause ≡ None) × (tree ≡ new)
told None tree new e = (refl, cc)
told (Some c) tree new e = cc

found-all : (missing : Bool) (r : Result TreeMap Cause) (new : TreeMap) → cond missing (Err F1) r ≡ Ok new → r ≡ Ok new
found-all true r new e = cc
found-all false r new e = e

-- a tree after changes of which none fails is a tree
pub changed_tree-IsTree : (tree from : TreeMap) (sources : List Source) (dest : List (List ℕ)) (o : CopyOptions) (into : Bool) → IsTree tree → IsTree from → IsClean dest → AllByRecursion HasName sources
    → first_cause (parent_meta o) tree [] (changes_of o into from dest sources) ≡ None → IsTree (changed_tree (parent_meta o) tree (changes_of o into from dest sources))
changed_tree-IsTree tree from sources dest o into h g clean named none = laid-more (parent_meta o) tree [] (changes_of o into from dest sources) h (named-items o into from dest g clean sources named) none

-- a tree after a COPY is a tree
pub copied-IsTree : (tree from new : TreeMap) (sources : List Source) (dest : List (List ℕ)) (o : CopyOptions) → IsTree tree → IsTree from → IsClean dest → AllByRecursion HasName sources → copied tree from sources dest o ≡ Ok new → IsTree new
copied-IsTree tree from new sources dest o h g clean named e =
    let changes : List Change = changes_of o (goes_into tree dest o) from dest sources in
    let done = told (first_cause (parent_meta o) tree [] changes) (changed_tree (parent_meta o) tree changes) new (found-all (list_any (is_missing from) sources) _ new e) in
    subst IsTree done.1 (laid-more (parent_meta o) tree [] changes h (named-items o (goes_into tree dest o) from dest g clean sources named) done.0)

-- ---- one file

one-item : (meta : Meta) (tree : TreeMap) (p : List (List ℕ)) (e : Entry) → length p ≤ 64 → tree_of_changes meta tree (Place p e ∷ []) ≡ tree_or (cause_at (get tree) p e) (placed meta tree p e)
one-item meta tree p e few = λ i. tree_or (only i) (changed_tree-more meta tree [] (Place p e) i)
  where
    alone : (c : Option Cause) → option_or c None ≡ c
    alone None = refl
    alone (Some c) = refl

    only : option_or (change_cause (kind_placed []) (get tree) (Place p e)) None ≡ cause_at (get tree) p e
    only = alone _ ∙ ap (λ b. cond b (Some F5) (cause_at (get tree) p e)) (le-ltb 64 (length p) few)

-- COPY of one file, which doesn't go into a directory, is one placement at the destination: as `put`, but for the parents' owner
pub copied-file : (tree from : TreeMap) (path dest : List (List ℕ)) (o : CopyOptions) (meta : Meta) (content : List ℕ) → IsClean dest → get from path ≡ Some (File meta content) → goes_into tree dest o ≡ false
    → copied tree from (Found (path ∷ []) ∷ []) dest o ≡ tree_or (cause_at (get tree) dest (placed_entry o (File meta content))) (placed (parent_meta o) tree dest (placed_entry o (File meta content)))
copied-file tree from path dest o meta content clean is alone =
    (λ i. cond ((not (is_some (is i)) || false) || false) (Err F1) (tree_of_changes (parent_meta o) tree ((match_changes o (alone i) dest path (is i) (entries (map_below from path)) ++ []) ++ [])))
    ∙ one-item (parent_meta o) tree dest (placed_entry o (File meta content)) clean.few

-- ---- into the empty tree

into-empty : (o : CopyOptions) (q : List (List ℕ)) (tie way : Bool) (l : Option Entry) (d e : Entry) → option_or l (option_or (cond tie (Some d) None) (cond way (Some e) None)) ≡ option_or l (cond tie (Some d) (cond way (Some e) None))
into-empty o q true way l d e = refl
into-empty o q false way l d e = refl

-- what stands where after a COPY into the empty tree: what was placed last, the root, and directories on the way
pub get-changed_tree-empty : (o : CopyOptions) (changes : List Change) (q : List (List ℕ)) → get (changed_tree (parent_meta o) empty_tree changes) q
    ≡ option_or (last_placed changes q) (cond (eq_by_cmp path_cmp q []) (Some (Directory directory_meta)) (cond (needs_directory changes q) (Some (Directory (parent_meta o))) None))
get-changed_tree-empty o changes q =
    get-changed_tree (parent_meta o) empty_tree changes q
    ∙ (λ i. option_or (last_placed changes q) (option_or (get-empty_tree q i) (cond (needs_directory changes q) (Some (Directory (parent_meta o))) None)))
    ∙ into-empty o q (eq_by_cmp path_cmp q []) (needs_directory changes q) (last_placed changes q) (Directory directory_meta) (Directory (parent_meta o))

-- only the root stands in the empty tree, so that files go into a destination only where its text asks for it, or it is the root
pub goes-empty : (dest : List (List ℕ)) (o : CopyOptions) → goes_into empty_tree dest o ≡ (o.into || eq_by_cmp path_cmp dest [])
goes-empty dest o = ap (λ e. o.into || is_directory e) (get-empty_tree dest) ∙ ap (λ b. o.into || b) (by (eq_by_cmp path_cmp dest []))
  where
    by : (b : Bool) → is_directory (cond b (Some (Directory directory_meta)) None) ≡ b
    by true = refl
    by false = refl

-- ---- twice, said of all changes before

any-last : (test : Change → Bool) (changes : List Change) (change : Change) → list_any test (changes ++ change ∷ []) ≡ (list_any test changes || (test change || false))
any-last test [] change = refl
any-last test (x ∷ xs) change = ap (λ b. test x || b) (any-last test xs change) ∙ grouped (test x) (list_any test xs) (test change || false)
  where
    grouped : (a b c : Bool) → (a || (b || c)) ≡ ((a || b) || c)
    grouped true b c = refl
    grouped false b c = refl

-- what is told of the last one placed there, is told of all
pub record IsSaid (changes : List Change) : Type 0 where
  pub at : (p : List (List ℕ)) (e : Entry) → is_repeated (kind_placed changes p) e ≡ list_any (is_repeated_by p e) changes

abbrev twice_of : Option Bool → Bool → Bool
twice_of None b = false
twice_of (Some a) b = not (a && b)

twice-of : (kind : Option Bool) (e : Entry) → is_repeated kind e ≡ twice_of kind (is_directory (Some e))
twice-of None e = refl
twice-of (Some a) e = refl

said-cases : (tie : Bool) (kind : Option Bool) (any : Bool) (f e : Entry) → is_repeated kind e ≡ any → (tie ≡ true → is_repeated kind f ≡ false)
    → is_repeated (option_or (kind_of (cond tie (Some f) None)) kind) e ≡ (any || ((tie && not (is_directory (Some f) && is_directory (Some e))) || false))
said-cases false kind any f e said fine = said ∙ or_false any
  where
    or_false : (b : Bool) → b ≡ (b || false)
    or_false true = refl
    or_false false = refl
said-cases true kind any f e said fine = by kind (is_directory (Some f)) (is_directory (Some e)) any (sym (twice-of kind e) ∙ said) (sym (twice-of kind f) ∙ fine refl)
  where
    by : (kind : Option Bool) (a b any : Bool) → twice_of kind b ≡ any → twice_of kind a ≡ false → not (a && b) ≡ (any || (not (a && b) || false))
    by None true true true s g = s
    by None true true false s g = refl
    by None true false true s g = refl
    by None true false false s g = refl
    by None false b true s g = refl
    by None false b false s g = refl
    by (Some true) true true true s g = s
    by (Some true) true true false s g = refl
    by (Some true) true false true s g = refl
    by (Some true) true false false s g = refl
    by (Some true) false b true s g = refl
    by (Some true) false b false s g = refl
    by (Some false) a b any s g = absurd (true≢false g)

said-more : (changes : List Change) (change : Change) (at : List (List ℕ) → Option Entry) → IsSaid changes → change_cause (kind_placed changes) at change ≡ None → IsSaid (changes ++ change ∷ [])
said-more changes (Make d) at h none = record { at = λ p e. ap (λ k. is_repeated k e) (kind_placed-more changes (Make d) p) ∙ h.at p e ∙ or_false (list_any (is_repeated_by p e) changes) ∙ sym (any-last (is_repeated_by p e) changes (Make d)) }
  where
    or_false : (b : Bool) → b ≡ (b || (false || false))
    or_false true = refl
    or_false false = refl
said-more changes (Place q f) at h none = record {
  at = λ p e.
      ap (λ k. is_repeated k e) (kind_placed-more changes (Place q f) p)
      ∙ said-cases (eq_by_cmp path_cmp p q) (kind_placed changes p) (list_any (is_repeated_by p e) changes) f e (h.at p e) (λ tie. ap (λ x. is_repeated (kind_placed changes x) f) (path_same p q tie) ∙ once (nat_lt 64 (length q)) (is_repeated (kind_placed changes q) f) none)
      ∙ sym (any-last (is_repeated_by p e) changes (Place q f));
}
  where
    once : (deep twice : Bool) → cond deep (Some F5) (cond twice (Some F3) (cause_at at q f)) ≡ None → twice ≡ false
    once true twice n = absurd (true≢false (ap is_some n))
    once false true n = absurd (true≢false (ap is_some n))
    once false false n = refl

said-all : (meta : Meta) (tree : TreeMap) (before changes : List Change) → IsSaid before → first_cause meta tree before changes ≡ None → IsSaid (before ++ changes)
said-all meta tree before [] h none = subst IsSaid (sym (append-nil before)) h
said-all meta tree before (change ∷ changes) h none =
    let both = first-none (change_cause (kind_placed before) (get (changed_tree meta tree before)) change) (first_cause meta tree (before ++ change ∷ []) changes) none in
    subst IsSaid (append_assoc before (change ∷ []) changes) (said-all meta tree (before ++ change ∷ []) changes (said-more before change (get (changed_tree meta tree before)) h both.0) both.1)

-- while no change failed, an entry is placed twice where it and some entry placed there before aren't both directories
pub is_repeated-any : (meta : Meta) (tree : TreeMap) (changes : List Change) (p : List (List ℕ)) (e : Entry) → first_cause meta tree [] changes ≡ None → is_repeated (kind_placed changes p) e ≡ list_any (is_repeated_by p e) changes
is_repeated-any meta tree changes p e none = (said-all meta tree [] changes (record { at = λ q f. refl }) none).at p e
