-- What is kept below a path that isn't kept: nothing, if no exception may relate to a path below it.
use Rattle.std.proofs.Common.{◌≡◌, ◌∙◌, ℕ, zero, suc, Bool, true, false, List, [], ◌∷◌, ◌++◌, Some, refl, sym, ap, subst, inl, inr, true≢false}
use Rattle.std.specs.Prelude.{◌&&◌, ◌||◌, slice_get}
use Rattle.std.specs.List.{list_any}
use Rattle.globs.specs.Cut.{CanBeCut, IsPiece}
use Rattle.ignorefile.specs.declared.line.Line.{Line}
use Rattle.ignorefile.specs.declared.line.Segment.{Segment}
use Rattle.ignorefile.specs.Line.{holds, is_deep}
use Rattle.ignorefile.specs.Kept.{Kept, KeepsNothing, Touches, TouchesAt}
use Rattle.ignorefile.specs.PrivateWalk.{may_except_below, may_reach}

neither : (a b : Bool) → (a || b) ≡ false → (a ≡ false) × (b ≡ false)
neither true b h = cc
neither false b h = (refl, h)

second : (a b : Bool) → (a && b) ≡ false → a ≡ true → b ≡ false
second true b h e = h
second false b h e = cc

first_same : (x y : List ℕ) (xs ys : List (List ℕ)) → x ∷ xs ≡ y ∷ ys → x ≡ y
first_same x y xs ys e = cc

later_same : (x y : List ℕ) (xs ys : List (List ℕ)) → x ∷ xs ≡ y ∷ ys → xs ≡ ys
later_same x y xs ys e = cc

-- a beginning of a path's extension that the segments relate to is one of the path
reach : (segments : List Segment) (path rest front after : List (List ℕ)) → may_reach segments path ≡ false → path ++ rest ≡ front ++ after
    → CanBeCut is_deep (λ segment name. holds segment name ≡ true) segments front → (left : List (List ℕ)) × (path ≡ front ++ left)
reach [] path rest front after none e cut = (path, ap (λ (f : List (List ℕ)). f ++ path) (sym cut))
reach (segment ∷ segments) [] rest front after none e cut = absurd cc
reach (segment ∷ segments) (name ∷ path) rest front after none e cut =
    by cut.1.1.1.0 (λ far same. reach segments path rest cut.1.0 after far same cut.1.1.1.1)
  where
    later : List (List ℕ)
    later = cut.1.0

    tests : (is_deep segment ≡ false) × ((holds segment name && may_reach segments path) ≡ false)
    tests = neither (is_deep segment) (holds segment name && may_reach segments path) none

    by : IsPiece is_deep (λ s n. holds s n ≡ true) segment cut.0
        → (may_reach segments path ≡ false → path ++ rest ≡ later ++ after → (left : List (List ℕ)) × (path ≡ later ++ left))
        → (left : List (List ℕ)) × (name ∷ path ≡ front ++ left)
    by (inl deep) again = absurd (true≢false (sym deep ∙ tests.0))
    by (inr one) again = (found.0, is)
      where
        item : List ℕ
        item = one.1.0

        whole : front ≡ item ∷ later
        whole = cut.1.1.0 ∙ ap (λ (p : List (List ℕ)). p ++ later) one.1.1.0

        split : name ∷ (path ++ rest) ≡ item ∷ (later ++ after)
        split = e ∙ ap (λ (f : List (List ℕ)). f ++ after) whole

        same : name ≡ item
        same = first_same name item (path ++ rest) (later ++ after) split

        takes : holds segment name ≡ true
        takes = subst (λ n. holds segment n ≡ true) (sym same) one.1.1.1

        found : (left : List (List ℕ)) × (path ≡ later ++ left)
        found = again (second (holds segment name) (may_reach segments path) tests.1 takes) (later_same name item (path ++ rest) (later ++ after) split)

        is : name ∷ path ≡ front ++ found.0
        is = ap (λ n. n ∷ path) same ∙ ap (λ p. item ∷ p) found.1 ∙ ap (λ (f : List (List ℕ)). f ++ found.0) (sym whole)

joined : (a b c : List (List ℕ)) → (a ++ b) ++ c ≡ a ++ (b ++ c)
joined [] b c = refl
joined (x ∷ a) b c = ap (λ r. x ∷ r) (joined a b c)

-- a line that touches a path touches what lies below it
touches_below : (line : Line) (path rest : List (List ℕ)) → Touches line path → Touches line (path ++ rest)
touches_below line path rest touches =
    (touches.0, (touches.1.0 ++ rest, (ap (λ (p : List (List ℕ)). p ++ rest) touches.1.1.0 ∙ joined touches.0 touches.1.0 rest, touches.1.1.1)))

at_below : (lines : List Line) (path rest : List (List ℕ)) (n : ℕ) → TouchesAt lines path n → TouchesAt lines (path ++ rest) n
at_below lines path rest n at = (at.0, (at.1.0, touches_below at.0 path rest at.1.1))

none_any : (names : List (List ℕ)) (lines : List Line) (n : ℕ) (line : Line) → list_any (may_except_below names) lines ≡ false → slice_get lines n ≡ Some line
    → may_except_below names line ≡ false
none_any names [] n line none at = absurd cc
none_any names (first ∷ lines) zero line none at =
    subst (λ l. may_except_below names l ≡ false) (same first line at) (neither (may_except_below names first) (list_any (may_except_below names) lines) none).0
  where
    same : (x y : Line) → Some x ≡ Some y → x ≡ y
    same x y e = cc
none_any names (first ∷ lines) (suc n) line none at =
    none_any names lines n line (neither (may_except_below names first) (list_any (may_except_below names) lines) none).1 at

pub keeps_nothing : (lines : List Line) (path : List (List ℕ)) → (Kept lines path → ⊥) → list_any (may_except_below path) lines ≡ false → KeepsNothing lines path
keeps_nothing lines path out none rest (inl untouched) = out (inl (λ n at. untouched n (at_below lines path rest n at)))
keeps_nothing lines path out none rest (inr (n, (line, (at, (touches, (exception, last)))))) = out (inr (n, (line, (at, (here, (exception, λ m after there. last m after (at_below lines path rest m there)))))))
  where
    far : may_reach line.segments path ≡ false
    far = second line.exception (may_reach line.segments path) (none_any path lines n line none at) exception

    found : (left : List (List ℕ)) × (path ≡ touches.0 ++ left)
    found = reach line.segments path rest touches.0 touches.1.0 far touches.1.1.0 touches.1.1.1

    here : Touches line path
    here = (touches.0, (found.0, (found.1, touches.1.1.1)))
