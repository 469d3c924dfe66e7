-- A search among the names of a folder that begin with a text: nothing is found before them, and nothing behind.
use Rattle.std.specs.Prelude.{◌≡◌, ◌↔◌, ℕ, Bool, true, false, ◌&&◌, cond, not, IsTrue, None, List, [], ◌∷◌, ◌++◌, drop}
use Rattle.std.proofs.Common.{sym, ap, refl, ◌∙◌, subst, true≢false, append-nil}
use Rattle.std.specs.Bool.{MatchBool}
use Rattle.std.specs.List.{AllByRecursion}
use Rattle.std.specs.Str.Pattern.{HasPrefixMatch, FindsTextPrefix}
use Rattle.std.specs.declared.cmp.Ordering.{Ordering}
use Rattle.std.specs.declared.cmp.Ordering.TheVariants.{Less, Equal, Greater}
use Rattle.std.specs.Ordering.{is_lt, nat_cmp, ordering_then}
use Rattle.std.specs.Cmp.{tied_itself, nat_cmp_total}
use Rattle.std.specs.FinMap.{entries, nat_cmp-IsAntisymmetric}
use Rattle.std.specs.FinMap.Entries.{is_sorted, below_all}
use Rattle.paths.specs.Order.{name_cmp}
use Rattle.paths.proofs.FrontLaws.{both_first, both_second}
use Rattle.globs.specs.declared.part.Part.{Part}
use Rattle.globs.specs.Component.{relates_to_name, HasFront}
use Rattle.globs.specs.Glob.{matches}
use Rattle.globs.proofs.Tests.{name-to}
use Rattle.trees.specs.declared.entry.Entry.{Entry}
use Rattle.trees.specs.TreeMap.{TreeMap}
use Rattle.trees.specs.Branch.{rows_of_children, from_name, AreChildrenFrom}
use Rattle.vertexrun.specs.PrivateMatches.{paths_that, AreClean, BeginsAs}
use Rattle.vertexrun.proofs.MatchSteps.{under_name, kept-append, dropped-under, clean-parts}

-- ---- the order of names that begin alike

-- what the test of beginnings answers
pub begins-both : (r : Bool) (front name : List ℕ) → MatchBool r (HasPrefixMatch (FindsTextPrefix front) name) (FindsTextPrefix front name None) → IsTrue r ↔ BeginsAs front name
begins-both true front name found = ((λ h. (drop found.0 name, found.1.1)), λ begins. refl)
begins-both false front name none = ((λ h. absurd (true≢false (sym h))), λ begins. absurd (none begins.0 begins.1))

-- what begins with a text doesn't come before it
not-before : (front rest : List ℕ) → is_lt (name_cmp (front ++ rest) front) ≡ false
not-before [] [] = refl
not-before [] (c ∷ cs) = refl
not-before (c ∷ cs) rest = ap (λ o. is_lt (ordering_then o (name_cmp (cs ++ rest) cs))) (tied_itself nat_cmp_total c) ∙ not-before cs rest

-- what comes between a text and something that begins with it begins with it too
between : (front name rest : List ℕ) → is_lt (name_cmp name front) ≡ false → is_lt (name_cmp name (front ++ rest)) ≡ true → BeginsAs front name
between [] name rest from before = (name, refl)
between (f ∷ fs) [] rest from before = absurd (true≢false from)
between (f ∷ fs) (n ∷ ns) rest from before = by (nat_cmp n f) refl (between fs ns rest) from before
  where
    by : (o : Ordering) → nat_cmp n f ≡ o → (is_lt (name_cmp ns fs) ≡ false → is_lt (name_cmp ns (fs ++ rest)) ≡ true → BeginsAs fs ns)
        → is_lt (ordering_then o (name_cmp ns fs)) ≡ false → is_lt (ordering_then o (name_cmp ns (fs ++ rest))) ≡ true → BeginsAs (f ∷ fs) (n ∷ ns)
    by Less is more h l = absurd (true≢false h)
    by Equal is more h l = let begins = more h l in (begins.0, λ i. nat_cmp-IsAntisymmetric n f is i ∷ begins.1 i)
    by Greater is more h l = absurd (true≢false (sym l))

-- none of the children comes before a text
abbrev pub AreFrom : List ℕ → List (List ℕ × TreeMap) → Type 0
AreFrom front children = AllByRecursion (λ (child : List ℕ × TreeMap). is_lt (name_cmp child.0 front) ≡ false) children

-- what is left of children that rise, and none of which comes before a text
pub rest-from : (front name : List ℕ) (child : TreeMap) (left rest : List (List ℕ × TreeMap)) → left ≡ (name, child) ∷ rest → is_sorted name_cmp left ≡ true → AreFrom front left → is_sorted name_cmp rest ≡ true × AreFrom front rest
rest-from front name child left rest next rise from =
    (both_second (below_all name_cmp name rest) _ (ap (is_sorted name_cmp) (sym next) ∙ rise), (subst (AreFrom front) next from).1)

-- ---- what is found

module _ (at : List (List ℕ)) (parts : List Part) (more : List (List Part)) where
  -- below children to whose names the component doesn't relate nothing is found
  none-below : (children : List (List ℕ × TreeMap)) → AllByRecursion (λ (child : List ℕ × TreeMap). relates_to_name parts child.0 ≡ false) children → paths_that at (matches (parts ∷ more)) (rows_of_children children) ≡ []
  none-below [] none = refl
  none-below (child ∷ children) none =
      kept-append at (matches (parts ∷ more)) (under_name child.0 (entries child.1)) (rows_of_children children)
      ∙ (λ i. dropped-under at child.0 (matches (parts ∷ more)) (matches more) (λ path. ap (λ b. b && matches more path) none.0) (entries child.1) i ++ none-below children none.1 i)

  module _ (front : List ℕ) (has : HasFront parts front) where
    unrelated : (name : List ℕ) → (BeginsAs front name → ⊥) → relates_to_name parts name ≡ false
    unrelated name other = by (relates_to_name parts name) refl
      where
        by : (b : Bool) → relates_to_name parts name ≡ b → relates_to_name parts name ≡ false
        by true is = absurd (other (has name (name-to parts name is)))
        by false is = is

    before-none : (name : List ℕ) → is_lt (name_cmp name front) ≡ true → relates_to_name parts name ≡ false
    before-none name before =
        unrelated name (λ begins. true≢false (sym before ∙ ap (λ (n : List ℕ). is_lt (name_cmp n front)) begins.1 ∙ not-before front begins.0))

    -- without the children that come before it the same is found
    from-found : (all : List (List ℕ × TreeMap)) → paths_that at (matches (parts ∷ more)) (rows_of_children (from_name front all)) ≡ paths_that at (matches (parts ∷ more)) (rows_of_children all)
    from-found [] = refl
    from-found (child ∷ all) = by (is_lt (name_cmp child.0 front)) refl (from-found all)
      where
        apart : (children : List (List ℕ × TreeMap)) → paths_that at (matches (parts ∷ more)) (rows_of_children (child ∷ children))
            ≡ paths_that at (matches (parts ∷ more)) (under_name child.0 (entries child.1)) ++ paths_that at (matches (parts ∷ more)) (rows_of_children children)
        apart children = kept-append at (matches (parts ∷ more)) (under_name child.0 (entries child.1)) (rows_of_children children)

        by : (b : Bool) → is_lt (name_cmp child.0 front) ≡ b → paths_that at (matches (parts ∷ more)) (rows_of_children (from_name front all)) ≡ paths_that at (matches (parts ∷ more)) (rows_of_children all)
            → paths_that at (matches (parts ∷ more)) (rows_of_children (cond (not b) (child ∷ from_name front all) (from_name front all))) ≡ paths_that at (matches (parts ∷ more)) (rows_of_children (child ∷ all))
        by true is rest =
            rest
            ∙ sym (apart all ∙ ap (λ paths. paths ++ paths_that at (matches (parts ∷ more)) (rows_of_children all))
            (dropped-under at child.0 (matches (parts ∷ more)) (matches more) (λ path. ap (λ b. b && matches more path) (before-none child.0 is)) (entries child.1)))
        by false is rest =
            apart (from_name front all) ∙ ap (λ paths. paths_that at (matches (parts ∷ more)) (under_name child.0 (entries child.1)) ++ paths) rest ∙ sym (apart all)

    -- as it is below the whole branch
    pub branch-found : (branch : TreeMap) (children : List (List ℕ × TreeMap)) → AreChildrenFrom branch front children → paths_that at (matches (parts ∷ more)) (rows_of_children children) ≡ paths_that at (matches (parts ∷ more)) (entries branch)
    branch-found branch children from =
        ap (λ (l : List (List ℕ × TreeMap)). paths_that at (matches (parts ∷ more)) (rows_of_children l)) from.left ∙ from-found from.all
        ∙ ap (paths_that at (matches (parts ∷ more))) (sym from.whole.rows)

    behind-none : (name : List ℕ) → is_lt (name_cmp name front) ≡ false → (BeginsAs front name → ⊥) → (rest : List (List ℕ × TreeMap)) → below_all name_cmp name rest ≡ true
        → AllByRecursion (λ (child : List ℕ × TreeMap). relates_to_name parts child.0 ≡ false) rest
    behind-none name from other [] below = tt
    behind-none name from other (child ∷ rest) below = (
      unrelated child.0 (λ begins. other (between front name begins.0 from (ap (λ (n : List ℕ). is_lt (name_cmp name n)) (sym begins.1) ∙ both_first _ _ below))),
      behind-none name from other rest (both_second (is_lt (name_cmp name child.0)) _ below),
    )

    -- from a name on that doesn't begin with the text nothing is found
    pub end-found : (name : List ℕ) (child : TreeMap) (left rest : List (List ℕ × TreeMap)) → left ≡ (name, child) ∷ rest → is_sorted name_cmp left ≡ true → AreFrom front left → (BeginsAs front name → ⊥)
        → paths_that at (matches (parts ∷ more)) (rows_of_children left) ≡ []
    end-found name child left rest next rise from other =
        ap (λ (l : List (List ℕ × TreeMap)). paths_that at (matches (parts ∷ more)) (rows_of_children l)) next
        ∙ none-below ((name, child) ∷ rest)
        (unrelated name other, behind-none name (subst (AreFrom front) next from).0 other rest (both_first _ _ (ap (is_sorted name_cmp) (sym next) ∙ rise)))

-- where nothing is found of what is left, all is found
pub none-left : (before paths all : List (List (List ℕ))) → paths ≡ [] → before ++ paths ≡ all → before ≡ all
none-left before paths all none so_far = sym (append-nil before) ∙ ap (λ (rest : List (List (List ℕ))). before ++ rest) (sym none) ∙ so_far

-- ---- which children are gone through

are-from : (front : List ℕ) (all : List (List ℕ × TreeMap)) → AreFrom front (from_name front all)
are-from front [] = tt
are-from front (child ∷ all) = by (is_lt (name_cmp child.0 front)) refl (are-from front all)
  where
    by : (b : Bool) → is_lt (name_cmp child.0 front) ≡ b → AreFrom front (from_name front all) → AreFrom front (cond (not b) (child ∷ from_name front all) (from_name front all))
    by true is rest = rest
    by false is rest = (is, rest)

pub branch-from : (front : List ℕ) (branch : TreeMap) (children : List (List ℕ × TreeMap)) → AreChildrenFrom branch front children → AreFrom front children
branch-from front branch children from = subst (AreFrom front) (sym from.left) (are-from front from.all)

clean-append : (at : List (List ℕ)) (xs ys : List (List (List ℕ) × Entry)) → AreClean at xs → AreClean at ys → AreClean at (xs ++ ys)
clean-append at [] ys own rest = rest
clean-append at (x ∷ xs) ys own rest = (own.0, clean-append at xs ys own.1 rest)

clean-from : (at : List (List ℕ)) (front : List ℕ) (all : List (List ℕ × TreeMap)) → AreClean at (rows_of_children all) → AreClean at (rows_of_children (from_name front all))
clean-from at front [] clean = tt
clean-from at front (child ∷ all) clean =
    let both = clean-parts at (under_name child.0 (entries child.1)) (rows_of_children all) clean in by (is_lt (name_cmp child.0 front)) both.0 (clean-from at front all both.1)
  where
    by : (b : Bool) → AreClean at (under_name child.0 (entries child.1)) → AreClean at (rows_of_children (from_name front all))
        → AreClean at (rows_of_children (cond (not b) (child ∷ from_name front all) (from_name front all)))
    by true own rest = rest
    by false own rest = clean-append at (under_name child.0 (entries child.1)) (rows_of_children (from_name front all)) own rest

-- they keep the limits, as all of the branch do
pub branch-clean : (at : List (List ℕ)) (front : List ℕ) (branch : TreeMap) (children : List (List ℕ × TreeMap)) → AreChildrenFrom branch front children → AreClean at (entries branch) → AreClean at (rows_of_children children)
branch-clean at front branch children from clean =
    subst (λ (l : List (List ℕ × TreeMap)). AreClean at (rows_of_children l)) (sym from.left)
    (clean-from at front from.all (subst (AreClean at) from.whole.rows clean).1)
