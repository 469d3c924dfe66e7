-- Rows that follow one another build their tree, though the tree of a list places the last row first.
use Rattle.std.specs.Prelude.{◌≡◌, ℕ, Bool, true, false, cond, Option, Some, None, List, [], ◌∷◌, ◌++◌}
use Rattle.std.proofs.Common.{sym, ap, refl, ◌∙◌, true≢false}
use Rattle.std.specs.Option.{option_or}
use Rattle.std.specs.List.{AllByRecursion}
use Rattle.std.specs.Ordering.{eq_by_cmp, is_eq}
use Rattle.std.specs.declared.cmp.Ordering.TheVariants.{Less}
use Rattle.std.specs.FinMap.{get}
use Rattle.paths.specs.Order.{path_cmp}
use Rattle.paths.specs.OrderLaws.{path_cmp_total}
use Rattle.paths.specs.Fronts.{is_front}
use Rattle.paths.proofs.FrontLaws.{path_same, both_hold, both_first, both_second}
use Rattle.trees.specs.declared.entry.Entry.{Entry}
use Rattle.trees.specs.declared.entry.Entry.TheVariants.{Directory}
use Rattle.trees.specs.TreeMap.{directory_meta, empty_tree}
use Rattle.trees.specs.Put.{placed}
use Rattle.trees.specs.Row.{Row}
use Rattle.trees.specs.Whole.{tree_of}
use Rattle.trees.specs.PrivateGrowing.{grown}
use Rattle.trees.specs.Builder.{Built, none_built, comes_next, with_row, follow_from, last_from, IsBuiltOf}
use Rattle.trees.proofs.TreeLaws.{same_tree, get-placed}
use Rattle.trees.proofs.PartLists.{less}
use Rattle.trees.proofs.GrowingSteps.{on, grown-append, tree-grown}

abbrev Path : Type 0
Path = List (List ℕ)

abbrev At : Type 0
At = Path → Option Entry

-- ---- two rows of different paths may be placed in either order

-- at most one of two different paths is that of q
swapped : (tie other front front' : Bool) (a b d : Entry) (o : Option Entry) → (tie ≡ true → other ≡ false)
    → cond tie (Some a) (option_or (cond other (Some b) (option_or o (cond front' (Some d) None))) (cond front (Some d) None)) ≡ cond other (Some b) (option_or (cond tie (Some a) (option_or o (cond front (Some d) None))) (cond front' (Some d) None))
swapped true true front front' a b d o apart = absurd (true≢false (apart refl))
swapped true false front front' a b d o apart = refl
swapped false true front front' a b d o apart = refl
swapped false false front front' a b d (Some e) apart = refl
swapped false false true true a b d None apart = refl
swapped false false true false a b d None apart = refl
swapped false false false true a b d None apart = refl
swapped false false false false a b d None apart = refl

not-both : (p r q : Path) → path_cmp p r ≡ Less → eq_by_cmp path_cmp q p ≡ true → eq_by_cmp path_cmp q r ≡ false
not-both p r q l tie = ap (λ x. eq_by_cmp path_cmp x r) (path_same q p tie) ∙ ap is_eq l

-- a row placed first may be placed last
placed-late : (rows : List Row) (row : Row) (old : At) (q : Path) → AllByRecursion (λ r. path_cmp r.0 row.0 ≡ Less) rows → grown rows (λ p. on row.0 row.1 p (old p)) q ≡ on row.0 row.1 q (grown rows old q)
placed-late [] row old q all = refl
placed-late (r ∷ rows) row old q all =
    ap (on r.0 r.1 q) (placed-late rows row old q all.1)
    ∙ swapped (eq_by_cmp path_cmp q r.0) (eq_by_cmp path_cmp q row.0) (is_front q r.0) (is_front q row.0) r.1 row.1 (Directory directory_meta) (grown rows old q) (not-both r.0 row.0 q all.0)

-- ---- rows that follow one another

follow-more : (last : Option Row) (rows : List Row) (row : Row) → follow_from last rows ≡ true → comes_next (last_from last rows) row ≡ true → follow_from last (rows ++ row ∷ []) ≡ true
follow-more last [] row f n = both_hold _ _ n refl
follow-more last (r ∷ rows) row f n = both_hold _ _ (both_first _ _ f) (follow-more (Some r) rows row (both_second (comes_next last r) _ f) n)

last-more : (last : Option Row) (rows : List Row) (row : Row) → last_from last (rows ++ row ∷ []) ≡ Some row
last-more last [] row = refl
last-more last (r ∷ rows) row = last-more (Some r) rows row

on-less : (last row : Row) → comes_next (Some last) row ≡ true → path_cmp last.0 row.0 ≡ Less
on-less last row n = less _ (both_first _ _ n)

-- each comes before a row that may come next
before-next : (last : Row) (rows : List Row) (row : Row) → follow_from (Some last) rows ≡ true → comes_next (last_from (Some last) rows) row ≡ true → path_cmp last.0 row.0 ≡ Less
before-next last [] row f n = on-less last row n
before-next last (r ∷ rows) row f n =
    path_cmp_total.trans last.0 r.0 row.0 (on-less last r (both_first _ _ f)) (before-next r rows row (both_second (comes_next (Some last) r) _ f) n)

all-before : (last : Option Row) (rows : List Row) (row : Row) → follow_from last rows ≡ true → comes_next (last_from last rows) row ≡ true → AllByRecursion (λ r. path_cmp r.0 row.0 ≡ Less) rows
all-before last [] row f n = tt
all-before last (r ∷ rows) row f n = let rest = both_second (comes_next last r) _ f in (before-next r rows row rest n, all-before (Some r) rows row rest n)

-- ---- what is built of them

pub built-none : IsBuiltOf [] none_built
built-none = record { follow = refl; tree = refl; last = refl }

pub built-more : (rows : List Row) (row : Row) (built : Built) → IsBuiltOf rows built → comes_next built.last row ≡ true → IsBuiltOf (rows ++ row ∷ []) (with_row built row)
built-more rows row built h next = record {
  follow = follow-more None rows row h.follow next';
  tree = same_tree _ _ at;
  last = sym (last-more None rows row);
}
  where
    next' : comes_next (last_from None rows) row ≡ true
    next' = ap (λ l. comes_next l row) (sym h.last) ∙ next

    at : (q : Path) → get (placed directory_meta built.tree row.0 row.1) q ≡ get (tree_of (rows ++ row ∷ [])) q
    at q =
        get-placed directory_meta built.tree row.0 row.1 q ∙ ap (on row.0 row.1 q) (ap (λ t. get t q) h.tree ∙ tree-grown rows q)
        ∙ sym (placed-late rows row (get empty_tree) q (all-before None rows row h.follow next'))
        ∙ sym (grown-append rows (row ∷ []) (get empty_tree) q) ∙ sym (tree-grown (rows ++ row ∷ []) q)
