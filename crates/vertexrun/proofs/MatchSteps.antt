-- The steps of a search for a pattern's matches: where it finds a path, and what is left below the names that its next component leads to.
use Rattle.std.specs.Prelude.{◌≡◌, ℕ, ◌+◌, ◌-◌, ◌*◌, ◌<◌, ◌≤◌, Bool, true, false, ◌&&◌, cond, Some, None, List, [], ◌∷◌, ◌++◌, map, nat_eq, length, get_or, take, drop}
use Rattle.std.proofs.Common.{sym, ap, refl, ◌∙◌, subst, true≢false, append_assoc, append-nil, arith, length-drop}
use Rattle.std.proofs.lemmas.List.{length-take}
use Rattle.std.proofs.lemmas.Grind.{common_steps}
use Rattle.std.specs.Ordering.{is_lt, eq_by_cmp}
use Rattle.std.specs.Cmp.Lexicographic.{pointwise, texts_ties}
use Rattle.std.specs.FinMap.{get, entries}
use Rattle.std.specs.FinMap.Entries.{below_all}
use Rattle.paths.specs.Order.{path_cmp, name_cmp}
use Rattle.paths.specs.Path.{IsClean}
use Rattle.paths.proofs.FrontLaws.{both_second, name_same, name_itself}
use Rattle.globs.specs.declared.part.Part.{Part}
use Rattle.globs.specs.Component.{relates_to_name, RelatesOnlyTo}
use Rattle.globs.specs.Glob.{glob_of, matches, some_matches}
use Rattle.trees.specs.declared.entry.Entry.{Entry}
use Rattle.trees.specs.TreeMap.{TreeMap}
use Rattle.trees.specs.Subtree.{with_entry, entries_below}
use Rattle.trees.specs.Branch.{rows_of_children}
use Rattle.trees.proofs.BranchLaws.{own-first, entries-child, entries-no_child}
use Rattle.plans.specs.Files.{matches_in}
use Rattle.vertexrun.specs.PrivateMatches.{paths_that, AreClean}

abbrev Rows : Type 0
Rows = List (List (List ℕ) × Entry)

-- the rows of a child, seen from its branch
abbrev pub under_name : List ℕ → Rows → Rows
under_name name rows = map (λ row. (name ∷ row.0, row.1)) rows

-- a pattern that has a component is its first one and the others
split-first : {A : Type 0} (xs : List A) (x : A) → 1 ≤ length xs → x ≡ get_or xs 0 x → xs ≡ x ∷ take (length xs - 1) (drop 1 xs)
split-first [] x more is = absurd (omega arith)
split-first (y ∷ ys) x more is = λ i. sym is i ∷ sym (whole_rest y ys) i
  where
    whole_rest : {A : Type 0} (x : A) (xs : List A) → take (length (x ∷ xs) - 1) (drop 1 (x ∷ xs)) ≡ xs
    whole_rest x xs = grind (arith, common_steps)

-- and these are one fewer
pub fewer-left : {A : Type 0} (xs : List A) → 1 ≤ length xs → 3 * length (take (length xs - 1) (drop 1 xs)) + 1 < 3 * length xs
fewer-left xs more = let e = length-take (length xs - 1) (drop 1 xs) in let f = length-drop 1 xs in omega arith

-- ---- what a test keeps of rows

kept-more : (at : List (List ℕ)) (test : List (List ℕ) → Bool) (row : List (List ℕ) × Entry) (rows : Rows)
    → paths_that at test (row ∷ rows) ≡ cond (test row.0) ((at ++ row.0) ∷ paths_that at test rows) (paths_that at test rows)
kept-more at test row rows = by (test row.0) refl
  where
    by : (b : Bool) → test row.0 ≡ b → paths_that at test (row ∷ rows) ≡ cond b ((at ++ row.0) ∷ paths_that at test rows) (paths_that at test rows)
    by true is = rw is refl
    by false is = rw is refl

appended : (b : Bool) (path : List (List ℕ)) (xs ys : List (List (List ℕ))) → cond b (path ∷ (xs ++ ys)) (xs ++ ys) ≡ cond b (path ∷ xs) xs ++ ys
appended true path xs ys = refl
appended false path xs ys = refl

pub kept-append : (at : List (List ℕ)) (test : List (List ℕ) → Bool) (xs ys : Rows) → paths_that at test (xs ++ ys) ≡ paths_that at test xs ++ paths_that at test ys
kept-append at test [] ys = refl
kept-append at test (x ∷ xs) ys =
    kept-more at test x (xs ++ ys)
    ∙ ap (λ paths. cond (test x.0) ((at ++ x.0) ∷ paths) paths) (kept-append at test xs ys)
    ∙ appended (test x.0) (at ++ x.0) (paths_that at test xs) (paths_that at test ys)
    ∙ ap (λ paths. paths ++ paths_that at test ys) (sym (kept-more at test x xs))

-- where nothing is left of a pattern, nothing below is found
kept-lower : (at : List (List ℕ)) (rows : Rows) → below_all path_cmp [] rows ≡ true → paths_that at (matches []) rows ≡ []
kept-lower at [] lower = refl
kept-lower at (([], entry) ∷ rows) lower = absurd (true≢false (sym lower))
kept-lower at ((c ∷ cs, entry) ∷ rows) lower = kept-lower at rows (both_second (is_lt (path_cmp [] (c ∷ cs))) _ lower)

module _ (at : List (List ℕ)) (name : List ℕ) (test rest : List (List ℕ) → Bool) where
  -- below a name of which a component's test holds, the test of the others is left
  kept-under : ((path : List (List ℕ)) → test (name ∷ path) ≡ rest path) → (rows : Rows) → paths_that at test (under_name name rows) ≡ paths_that (at ++ name ∷ []) rest rows
  kept-under same [] = refl
  kept-under same (row ∷ rows) =
      kept-more at test (name ∷ row.0, row.1) (under_name name rows)
      ∙ (λ i. cond (same row.0 i) (sym (append_assoc at (name ∷ []) row.0) i ∷ kept-under same rows i) (kept-under same rows i))
      ∙ sym (kept-more (at ++ name ∷ []) rest row rows)

  -- and below any other name nothing is
  pub dropped-under : ((path : List (List ℕ)) → test (name ∷ path) ≡ false) → (rows : Rows) → paths_that at test (under_name name rows) ≡ []
  dropped-under none [] = refl
  dropped-under none (row ∷ rows) =
      kept-more at test (name ∷ row.0, row.1) (under_name name rows)
      ∙ ap (λ b. cond b ((at ++ name ∷ row.0) ∷ paths_that at test (under_name name rows)) (paths_that at test (under_name name rows))) (none row.0)
      ∙ dropped-under none rows

  same-path : (k : List ℕ) (path : List (List ℕ)) → pointwise nat_eq name k ≡ true → at ++ k ∷ path ≡ (at ++ name ∷ []) ++ path
  same-path k path is = ap (λ c. at ++ c ∷ path) (sym (name_same name k (sym (texts_ties name k) ∙ is))) ∙ sym (append_assoc at (name ∷ []) path)

  -- where the test holds below one name alone, what it keeps is what is left of the rows below that name
  kept-below : test [] ≡ false → ((k : List ℕ) (path : List (List ℕ)) → test (k ∷ path) ≡ (pointwise nat_eq name k && rest path))
      → (rows : Rows) → paths_that at test rows ≡ paths_that (at ++ name ∷ []) rest (entries_below (name ∷ []) rows)
  kept-below none split [] = refl
  kept-below none split (([], entry) ∷ rows) =
      kept-more at test ([], entry) rows
      ∙ ap (λ b. cond b ((at ++ []) ∷ paths_that at test rows) (paths_that at test rows)) none
      ∙ kept-below none split rows
  kept-below none split ((k ∷ path, entry) ∷ rows) =
      kept-more at test (k ∷ path, entry) rows
      ∙ ap (λ b. cond b ((at ++ k ∷ path) ∷ paths_that at test rows) (paths_that at test rows)) (split k path)
      ∙ by (pointwise nat_eq name k) refl (kept-below none split rows)
    where
      by : (b : Bool) → pointwise nat_eq name k ≡ b → paths_that at test rows ≡ paths_that (at ++ name ∷ []) rest (entries_below (name ∷ []) rows)
          → cond (b && rest path) ((at ++ k ∷ path) ∷ paths_that at test rows) (paths_that at test rows)
          ≡ paths_that (at ++ name ∷ []) rest (with_entry (cond b (Some path) None) entry (entries_below (name ∷ []) rows))
      by true is more =
          (λ i. cond (rest path) (same-path k path is i ∷ more i) (more i)) ∙ sym (kept-more (at ++ name ∷ []) rest (path, entry) (entries_below (name ∷ []) rows))
      by false is more = more

-- ---- which rows keep the limits

pub clean-parts : (at : List (List ℕ)) (xs ys : Rows) → AreClean at (xs ++ ys) → AreClean at xs × AreClean at ys
clean-parts at [] ys clean = (tt, clean)
clean-parts at (x ∷ xs) ys clean = let both = clean-parts at xs ys clean.1 in ((clean.0, both.0), both.1)

clean-under : (at : List (List ℕ)) (name : List ℕ) (rows : Rows) → AreClean at (under_name name rows) → AreClean (at ++ name ∷ []) rows
clean-under at name [] clean = tt
clean-under at name (row ∷ rows) clean = (subst IsClean (sym (append_assoc at (name ∷ []) row.0)) clean.0, clean-under at name rows clean.1)

clean-below : (at : List (List ℕ)) (name : List ℕ) (rows : Rows) → AreClean at rows → AreClean (at ++ name ∷ []) (entries_below (name ∷ []) rows)
clean-below at name [] clean = tt
clean-below at name (([], entry) ∷ rows) clean = clean-below at name rows clean.1
clean-below at name ((k ∷ path, entry) ∷ rows) clean = by (pointwise nat_eq name k) refl (clean-below at name rows clean.1)
  where
    by : (b : Bool) → pointwise nat_eq name k ≡ b → AreClean (at ++ name ∷ []) (entries_below (name ∷ []) rows)
        → AreClean (at ++ name ∷ []) (with_entry (cond b (Some path) None) entry (entries_below (name ∷ []) rows))
    by true is more = (subst IsClean (same-path at name (λ p. true) (λ p. true) k path is) clean.0, more)
    by false is more = more

-- ---- the branch's own path

-- no component is left: it is found
found-here : (at : List (List ℕ)) (branch : TreeMap) (own : Entry) → get branch [] ≡ Some own → paths_that at (matches []) (entries branch) ≡ at ∷ []
found-here at branch own is =
    let first = own-first branch own is in
    ap (paths_that at (matches [])) first.whole ∙ kept-more at (matches []) ([], own) first.below ∙ (λ i. append-nil at i ∷ kept-lower at first.below first.lower i)

-- the same of what was found before and after
pub here-found : (at : List (List ℕ)) (components : List (List Part)) (branch : TreeMap) (own : Entry) (before after : List (List (List ℕ))) → length components < 1 → get branch [] ≡ Some own
    → after ≡ before ++ at ∷ [] → after ≡ before ++ paths_that at (matches components) (entries branch)
here-found at [] branch own before after none is found = found ∙ ap (λ paths. before ++ paths) (sym (found-here at branch own is))
here-found at (parts ∷ more) branch own before after none is found = absurd (omega arith)

-- it keeps the limits
pub clean-here : (at : List (List ℕ)) (branch : TreeMap) (own : Entry) → get branch [] ≡ Some own → AreClean at (entries branch) → IsClean at
clean-here at branch own is clean = subst IsClean (append-nil at) (subst (AreClean at) (own-first branch own is).whole clean).0

-- ---- a component that is spelled out

same-test : (a b : Bool) → (a ≡ true → b ≡ true) → (b ≡ true → a ≡ true) → a ≡ b
same-test true b to from = sym (to refl)
same-test false true to from = from refl
same-test false false to from = refl

is-named : (parts : List Part) (name k : List ℕ) → RelatesOnlyTo parts name → relates_to_name parts k ≡ pointwise nat_eq name k
is-named parts name k stands =
    same-test (relates_to_name parts k) (pointwise nat_eq name k)
    (λ h. texts_ties name k ∙ ap (eq_by_cmp name_cmp name) ((stands k).0 h) ∙ name_itself name)
    (λ h. (stands k).1 (sym (name_same name k (sym (texts_ties name k) ∙ h))))

named-below : (at : List (List ℕ)) (name : List ℕ) (parts : List Part) (more : List (List Part)) → RelatesOnlyTo parts name → (rows : Rows)
    → paths_that at (matches (parts ∷ more)) rows ≡ paths_that (at ++ name ∷ []) (matches more) (entries_below (name ∷ []) rows)
named-below at name parts more stands rows =
    kept-below at name (matches (parts ∷ more)) (matches more) refl (λ k path. ap (λ b. b && matches more path) (is-named parts name k stands)) rows

-- what is left is below the child of its name
found-child : (at : List (List ℕ)) (name : List ℕ) (parts : List Part) (more : List (List Part)) (branch child : TreeMap) → RelatesOnlyTo parts name
    → ((rest : List (List ℕ)) → get branch (name ∷ rest) ≡ get child rest)
    → paths_that at (matches (parts ∷ more)) (entries branch) ≡ paths_that (at ++ name ∷ []) (matches more) (entries child)
found-child at name parts more branch child stands there =
    named-below at name parts more stands (entries branch) ∙ ap (paths_that (at ++ name ∷ []) (matches more)) (sym (entries-child branch child name there))

pub clean-child : (at : List (List ℕ)) (name : List ℕ) (branch child : TreeMap) → ((rest : List (List ℕ)) → get branch (name ∷ rest) ≡ get child rest)
    → AreClean at (entries branch) → AreClean (at ++ name ∷ []) (entries child)
clean-child at name branch child there clean =
    subst (AreClean (at ++ name ∷ [])) (sym (entries-child branch child name there)) (clean-below at name (entries branch) clean)

-- and where there is none, nothing is found
found-no_child : (at : List (List ℕ)) (name : List ℕ) (parts : List Part) (more : List (List Part)) (branch : TreeMap) → RelatesOnlyTo parts name
    → ((rest : List (List ℕ)) → get branch (name ∷ rest) ≡ None) → paths_that at (matches (parts ∷ more)) (entries branch) ≡ []
found-no_child at name parts more branch stands none =
    named-below at name parts more stands (entries branch) ∙ ap (paths_that (at ++ name ∷ []) (matches more)) (entries-no_child branch name none)

-- the same of what was found before and after
pub child-found : (at : List (List ℕ)) (name : List ℕ) (components : List (List Part)) (parts : List Part) (branch child : TreeMap) (before after : List (List (List ℕ))) → 1 ≤ length components → parts ≡ get_or components 0 parts
    → RelatesOnlyTo parts name → ((rest : List (List ℕ)) → get branch (name ∷ rest) ≡ get child rest)
    → after ≡ before ++ paths_that (at ++ name ∷ []) (matches (take (length components - 1) (drop 1 components))) (entries child) → after ≡ before ++ paths_that at (matches components) (entries branch)
child-found at name components parts branch child before after more first stands there found =
    found ∙ ap (λ paths. before ++ paths) (sym (found-child at name parts (take (length components - 1) (drop 1 components)) branch child stands there))
    ∙ (λ i. before ++ paths_that at (matches (sym (split-first components parts more first) i)) (entries branch))

pub no-child-found : (at : List (List ℕ)) (name : List ℕ) (components : List (List Part)) (parts : List Part) (branch : TreeMap) (before : List (List (List ℕ))) → 1 ≤ length components → parts ≡ get_or components 0 parts
    → RelatesOnlyTo parts name → ((rest : List (List ℕ)) → get branch (name ∷ rest) ≡ None) → before ≡ before ++ paths_that at (matches components) (entries branch)
no-child-found at name components parts branch before more first stands none =
    sym (append-nil before) ∙ ap (λ paths. before ++ paths) (sym (found-no_child at name parts (take (length components - 1) (drop 1 components)) branch stands none))
    ∙ (λ i. before ++ paths_that at (matches (sym (split-first components parts more first) i)) (entries branch))

-- ---- a component with signs

-- what is found by the first component and the others is found by all
pub all-found : (at : List (List ℕ)) (components : List (List Part)) (parts : List Part) (branch : TreeMap) (before after : List (List (List ℕ))) → 1 ≤ length components → parts ≡ get_or components 0 parts
    → after ≡ before ++ paths_that at (matches (parts ∷ take (length components - 1) (drop 1 components))) (entries branch) → after ≡ before ++ paths_that at (matches components) (entries branch)
all-found at components parts branch before after more first found =
    found ∙ (λ i. before ++ paths_that at (matches (sym (split-first components parts more first) i)) (entries branch))

-- the first child that is left, and those behind it
pub clean-first : (at : List (List ℕ)) (name : List ℕ) (child : TreeMap) (left rest : List (List ℕ × TreeMap)) → left ≡ (name, child) ∷ rest → AreClean at (rows_of_children left)
    → AreClean (at ++ name ∷ []) (entries child) × AreClean at (rows_of_children rest)
clean-first at name child left rest next clean =
    let both = clean-parts at (under_name name (entries child)) (rows_of_children rest) (subst (λ (children : List (List ℕ × TreeMap)). AreClean at (rows_of_children children)) next clean) in
    (clean-under at name (entries child) both.0, both.1)

module _ (at : List (List ℕ)) (name : List ℕ) (child : TreeMap) (parts : List Part) (more : List (List Part)) (left rest : List (List ℕ × TreeMap)) (next : left ≡ (name, child) ∷ rest) where
  first-apart : paths_that at (matches (parts ∷ more)) (rows_of_children left)
      ≡ paths_that at (matches (parts ∷ more)) (under_name name (entries child)) ++ paths_that at (matches (parts ∷ more)) (rows_of_children rest)
  first-apart =
      ap (λ (children : List (List ℕ × TreeMap)). paths_that at (matches (parts ∷ more)) (rows_of_children children)) next
      ∙ kept-append at (matches (parts ∷ more)) (under_name name (entries child)) (rows_of_children rest)

  -- the component relates to its name: what is left below it comes first
  pub found-first : relates_to_name parts name ≡ true → (before after all : List (List (List ℕ))) → before ++ paths_that at (matches (parts ∷ more)) (rows_of_children left) ≡ all
      → after ≡ before ++ paths_that (at ++ name ∷ []) (matches more) (entries child) → after ++ paths_that at (matches (parts ∷ more)) (rows_of_children rest) ≡ all
  found-first relates before after all so_far found =
      ap (λ paths. paths ++ paths_that at (matches (parts ∷ more)) (rows_of_children rest))
      (found ∙ ap (λ paths. before ++ paths) (sym (kept-under at name (matches (parts ∷ more)) (matches more) (λ path. ap (λ b. b && matches more path) relates) (entries child))))
      ∙ append_assoc before _ _ ∙ ap (λ paths. before ++ paths) (sym first-apart) ∙ so_far

  -- it doesn't: nothing is found below it
  pub passed-first : relates_to_name parts name ≡ false → (before all : List (List (List ℕ))) → before ++ paths_that at (matches (parts ∷ more)) (rows_of_children left) ≡ all
      → before ++ paths_that at (matches (parts ∷ more)) (rows_of_children rest) ≡ all
  passed-first relates before all so_far =
      ap (λ paths. before ++ (paths ++ paths_that at (matches (parts ∷ more)) (rows_of_children rest)))
      (sym (dropped-under at name (matches (parts ∷ more)) (matches more) (λ path. ap (λ b. b && matches more path) relates) (entries child)))
      ∙ ap (λ paths. before ++ paths) (sym first-apart) ∙ so_far

-- ---- the whole tree

-- what the pattern that is read matches are the paths to which the text relates
pub matches-found : (tree : TreeMap) (pattern : List ℕ) (glob : List (List Part)) → glob_of pattern ≡ Some glob → paths_that [] (matches glob) (entries tree) ≡ matches_in tree pattern
matches-found tree pattern glob is = ap (λ spelled. paths_that [] (some_matches spelled) (entries tree)) (sym is)

none_that : (rows : Rows) → paths_that [] (λ path. false) rows ≡ []
none_that [] = refl
none_that (row ∷ rows) = none_that rows

-- a malformed pattern relates to none
pub matches-none : (tree : TreeMap) (pattern : List ℕ) → glob_of pattern ≡ None → [] ≡ matches_in tree pattern
matches-none tree pattern is = sym (ap (λ spelled. paths_that [] (some_matches spelled) (entries tree)) is ∙ none_that (entries tree))
