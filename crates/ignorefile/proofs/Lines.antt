-- The greatest rank of the lines at some positions, as a loop finds it, the name that a line's paths end in or how it begins, and how many
-- names they have.
use Rattle.std.specs.Prelude.{◌≡◌, ℕ, ◌+◌, ◌-◌, ◌<◌, ◌≤◌, Bool, true, false, List, [], ◌∷◌, ◌++◌, ◌||◌, Option, Some, None, take, length, get_or, slice_get, nat_lt}
use Rattle.std.proofs.Common.{sym, ap, refl, ◌∙◌, subst, inl, inr, true≢false, arith, zero, suc}
use Rattle.std.specs.List.{list_any}
use denote.Ref.{Bor}
use Rattle.std.specs.Option.{IfSome}
use Rattle.std.proofs.lemmas.Bool.{ltb-true, ltb-false}
use Rattle.std.proofs.lemmas.Option.{same_Some}
use Rattle.std.proofs.lemmas.List.{take_more, take_all}
use Rattle.globs.specs.declared.part.Part.{Part}
use Rattle.globs.specs.Component.{RelatesToName}
use Rattle.globs.specs.Cut.{CanBeCut}
use Rattle.globs.proofs.Cuts.{last-parts, snoc-parts}
use Rattle.globs.proofs.Tests.{name-to}
use Rattle.ignorefile.specs.declared.line.Segment.{Segment}
use Rattle.ignorefile.specs.declared.line.Segment.TheVariants.{Deep, Named}
use Rattle.ignorefile.specs.declared.line.Line.{Line}
use Rattle.ignorefile.specs.Line.{Relates, is_deep, holds}
use Rattle.ignorefile.specs.PrivateRanks.{EndsIn, LastBegins, LastEnds, LiesIn, HasCount, RelatesAt, AreInOrder, IsRaised, IsBest, TakesOnly, TakesBeginning, TakesEnding}

abbrev pub Holds : Segment → List ℕ → Type 0
Holds segment name = holds segment name ≡ true

-- the last segment of a line, where it takes one name, relates to the last name of each path that the line relates to
last-taken : (line : Line) (segments : List Segment) (parts : List Part) → line.segments ≡ segments → 1 ≤ length segments → Named parts ≡ get_or segments (length segments - 1) (Named parts)
    → (path : List (List ℕ)) → Relates line path → (front : List (List ℕ)) × ((last : List ℕ) × ((path ≡ front ++ last ∷ []) × RelatesToName parts last))
last-taken line segments parts same more is path r =
    let whole : line.segments ≡ take (length segments - 1) segments ++ Named parts ∷ [] = same ∙ last-parts is_deep Holds segments (Named parts) more is in
    let w = snoc-parts is_deep Holds (take (length segments - 1) segments) (Named parts) path refl (subst (λ (l : List Segment). CanBeCut is_deep Holds l path) whole r) in
    (w.0, (w.1.0, (w.1.1.0, name-to parts w.1.0 w.1.1.1.0)))

-- a line whose last segment takes one name alone ends in that name
last-only : (line : Line) (segments : List Segment) (last : Segment) (name : List ℕ) → line.segments ≡ segments → 1 ≤ length segments → last ≡ get_or segments (length segments - 1) last → TakesOnly last name → EndsIn line name
last-only line segments Deep name same more is only path r = absurd only
last-only line segments (Named parts) name same more is only path r =
    let w = last-taken line segments parts same more is path r in (w.0, (w.1.0, (w.1.1.0, λ utf8. only w.1.0 w.1.1.1)))

pub ends-in : (line : Line) (segments : List Segment) (last : Segment) (found : Option (Bor (List ℕ))) → segments ≡ line.segments → 1 ≤ length segments → last ≡ get_or segments (length segments - 1) last
    → IfSome found (λ name. TakesOnly last name.now) → IfSome found (λ name. EndsIn line name.now)
ends-in line segments last None same more is only = tt
ends-in line segments last (Some name) same more is only = last-only line segments last name.now (sym same) more is only

-- and one whose last segment takes names with one first byte, in such a name
last-beginning : (line : Line) (segments : List Segment) (last : Segment) (byte : ℕ) → line.segments ≡ segments → 1 ≤ length segments → last ≡ get_or segments (length segments - 1) last → TakesBeginning last byte → LastBegins line byte
last-beginning line segments Deep byte same more is begins path r = absurd begins
last-beginning line segments (Named parts) byte same more is begins path r =
    let w = last-taken line segments parts same more is path r in
    let rest = begins w.1.0 w.1.1.1 in
    (w.0, (rest.0, w.1.1.0 ∙ ap (λ (name : List ℕ). w.0 ++ name ∷ []) rest.1))

pub last-begins : (line : Line) (segments : List Segment) (last : Segment) (found : Option ℕ) → segments ≡ line.segments → 1 ≤ length segments → last ≡ get_or segments (length segments - 1) last
    → IfSome found (λ byte. TakesBeginning last byte) → IfSome found (λ byte. LastBegins line byte)
last-begins line segments last None same more is begins = tt
last-begins line segments last (Some byte) same more is begins = last-beginning line segments last byte (sym same) more is begins

-- or with one last byte
last-ending : (line : Line) (segments : List Segment) (last : Segment) (byte : ℕ) → line.segments ≡ segments → 1 ≤ length segments → last ≡ get_or segments (length segments - 1) last → TakesEnding last byte → LastEnds line byte
last-ending line segments Deep byte same more is ends path r = absurd ends
last-ending line segments (Named parts) byte same more is ends path r =
    let w = last-taken line segments parts same more is path r in
    let begin = ends w.1.0 w.1.1.1 in
    (w.0, (begin.0, w.1.1.0 ∙ ap (λ (name : List ℕ). w.0 ++ name ∷ []) begin.1))

pub last-ends : (line : Line) (segments : List Segment) (last : Segment) (found : Option ℕ) → segments ≡ line.segments → 1 ≤ length segments → last ≡ get_or segments (length segments - 1) last
    → IfSome found (λ byte. TakesEnding last byte) → IfSome found (λ byte. LastEnds line byte)
last-ends line segments last None same more is ends = tt
last-ends line segments last (Some byte) same more is ends = last-ending line segments last byte (sym same) more is ends

-- ---- the folder that a line's paths lie in

two-parts : (xs : List Segment) (x y : Segment) → 2 ≤ length xs → y ≡ get_or xs (length xs - 1) y → x ≡ get_or xs (length xs - 2) x → xs ≡ (take (length xs - 2) xs ++ x ∷ []) ++ y ∷ []
two-parts xs x y more last before = sym (take_all (length xs - 1 + 1) xs (omega arith)) ∙ take_more xs (length xs - 1) y (omega arith) ∙ (λ i. front i ++ sym last i ∷ [])
  where
    front : take (length xs - 1) xs ≡ take (length xs - 2) xs ++ x ∷ []
    front =
        let same : length xs - 1 ≡ length xs - 2 + 1 = omega arith in
        ap (λ (n : ℕ). take n xs) same ∙ take_more xs (length xs - 2) x (omega arith) ∙ ap (λ (z : Segment). take (length xs - 2) xs ++ z ∷ []) (sym before)

-- a line whose last segment takes one name, and the one before it one name alone, relates to paths right in folders of that name
lies-only : (line : Line) (front : List Segment) (folder last : Segment) (name : List ℕ) → line.segments ≡ (front ++ folder ∷ []) ++ last ∷ [] → is_deep last ≡ false → TakesOnly folder name → LiesIn line name
lies-only line front Deep last name whole one only path r = absurd only
lies-only line front (Named parts) last name whole one only path r =
    let w = snoc-parts is_deep Holds (front ++ Named parts ∷ []) last path one (subst (λ (l : List Segment). CanBeCut is_deep Holds l path) whole r) in
    let v = snoc-parts is_deep Holds front (Named parts) w.0 refl w.1.1.1.1 in
    let named : v.1.0 ≡ name = only v.1.0 (name-to parts v.1.0 v.1.1.1.0) in
    (v.0, (w.1.0, w.1.1.0 ∙ ap (λ (f : List (List ℕ)). f ++ w.1.0 ∷ []) (v.1.1.0 ∙ ap (λ (n : List ℕ). v.0 ++ n ∷ []) named)))

pub lies-in : (line : Line) (segments : List Segment) (folder last : Segment) (found : Option (Bor (List ℕ))) → segments ≡ line.segments → 2 ≤ length segments → last ≡ get_or segments (length segments - 1) last → folder ≡ get_or segments (length segments - 2) folder
    → is_deep last ≡ false → IfSome found (λ name. TakesOnly folder name.now) → IfSome found (λ name. LiesIn line name.now)
lies-in line segments folder last None same more is before one only = tt
lies-in line segments folder last (Some name) same more is before one only = lies-only line (take (length segments - 2) segments) folder last name.now (sym same ∙ two-parts segments folder last more is before) one only

-- ---- how many names a line's paths have

or-none : (a b : Bool) → (a || b) ≡ false → (a ≡ false) × (b ≡ false)
or-none true b h = absurd (true≢false h)
or-none false b h = (refl, h)

counted : (segments : List Segment) (path : List (List ℕ)) → list_any (λ segment. is_deep segment) segments ≡ false → CanBeCut is_deep Holds segments path → length path ≡ length segments
counted [] path none e = ap (λ (l : List (List ℕ)). length l) e
counted (segment ∷ more) path none (piece, (rest, (e, (inl any, r)))) =
    absurd (true≢false (sym any ∙ (or-none (is_deep segment) (list_any (λ segment. is_deep segment) more) none).0))
counted (segment ∷ more) path none (piece, (rest, (e, (inr (one, (name, (is, holds))), r)))) =
    let whole : length path ≡ length (name ∷ rest) = ap (λ (l : List (List ℕ)). length l) (e ∙ ap (λ (p : List (List ℕ)). p ++ rest) is) in
    let others = counted more rest (or-none (is_deep segment) (list_any (λ segment. is_deep segment) more) none).1 r in
    whole ∙ ap (λ (n : ℕ). suc n) others

pub has-count : (line : Line) (segments : List Segment) (deep : Bool) (count : ℕ) → segments ≡ line.segments → deep ≡ list_any (λ segment. is_deep segment) segments → deep ≡ false → count ≡ length segments → HasCount line count
has-count line segments deep count same any none is path r =
    counted segments path (sym any ∙ none) (subst (λ (l : List Segment). CanBeCut is_deep Holds l path) (sym same) r) ∙ sym is

-- ---- the greatest rank

-- none of the lines at the last positions relates
abbrev pub AreMissed : List Line → List ℕ → ℕ → List (List ℕ) → Type 0
AreMissed lines ns passed path = (k : ℕ) → k < length ns → length ns ≤ k + passed → RelatesAt lines path (get_or ns k 0) → ⊥

pub missed-none : (lines : List Line) (ns : List ℕ) (path : List (List ℕ)) → AreMissed lines ns 0 path
missed-none lines ns path k l m = absurd (omega arith)

pub line-at : (lines : List Line) (n : ℕ) (line : Line) → n < length lines → line ≡ get_or lines n line → slice_get lines n ≡ Some line
line-at [] n line l e = absurd (omega arith)
line-at (x ∷ xs) zero line l e = ap Some (sym e)
line-at (x ∷ xs) (suc n) line l e = line-at xs n line (omega arith) e

pub relates-at : (lines : List Line) (path : List (List ℕ)) (n : ℕ) (line : Line) → slice_get lines n ≡ Some line → RelatesAt lines path n → Relates line path
relates-at lines path n line at (l, (is, r)) = subst (λ (x : Line). Relates x path) (same_Some l line (sym is ∙ at)) r

pub raised-yes : (lines : List Line) (n : ℕ) (path : List (List ℕ)) (before : ℕ) (line : Line) → n < length lines → line ≡ get_or lines n line → before ≤ n → Relates line path → IsRaised lines n path before (n + 1)
raised-yes lines n path before line l is b r = record { least = omega arith; hit = λ h. (refl, (line, (line-at lines n line l is, r))); miss = λ h. absurd (omega arith) }

pub raised-no : (lines : List Line) (n : ℕ) (path : List (List ℕ)) (before : ℕ) (line : Line) → n < length lines → line ≡ get_or lines n line → (Relates line path → ⊥) → IsRaised lines n path before before
raised-no lines n path before line l is off = record { least = omega arith; hit = λ h. absurd (omega arith); miss = λ h r. off (relates-at lines path n line (line-at lines n line l is) r) }

module _ (lines : List Line) (ns : List ℕ) (path : List (List ℕ)) (above passed : ℕ) (order : AreInOrder (length lines) ns) (missed : AreMissed lines ns passed path) where
  pub best-none : length ns ≤ passed → IsBest lines ns path above above
  best-none all = record {
    least = omega arith;
    hit = λ h. absurd (omega arith);
    miss = λ n m b r. missed m.0 m.1.0 (omega arith) (subst (RelatesAt lines path) (sym m.1.1) r);
  }

  -- of the position that is tried next, and of those before it
  module _ (position : ℕ) (less : passed < length ns) (is : position ≡ get_or ns (length ns - 1 - passed) 0) where
    pub position-within : position < length lines
    position-within = let w = order.within (get_or ns (length ns - 1 - passed) 0) (length ns - 1 - passed, (omega arith, refl)) in omega arith

    not-above : (k : ℕ) → k < length ns - passed → get_or ns k 0 ≤ position
    not-above k l = by (nat_lt k (length ns - 1 - passed)) refl
      where
        by : (x : Bool) → nat_lt k (length ns - 1 - passed) ≡ x → get_or ns k 0 ≤ position
        by true e = let r = order.rise k (length ns - 1 - passed) (ltb-true k (length ns - 1 - passed) e) (omega arith) in omega arith
        by false e =
            let b = ltb-false k (length ns - 1 - passed) e in
            let same : k ≡ length ns - 1 - passed = omega arith in
            let here : get_or ns k 0 ≡ position = ap (λ (i : ℕ). get_or ns i 0) same ∙ sym is in
            omega arith

    -- a line at one of these positions that relates stands at the next one or before
    not-behind : (k n : ℕ) → k < length ns → get_or ns k 0 ≡ n → RelatesAt lines path n → n ≤ position
    not-behind k n l e r = by (nat_lt k (length ns - passed)) refl
      where
        by : (x : Bool) → nat_lt k (length ns - passed) ≡ x → n ≤ position
        by true t = let a = not-above k (ltb-true k (length ns - passed) t) in omega arith
        by false f = let b = ltb-false k (length ns - passed) f in absurd (missed k l (omega arith) (subst (RelatesAt lines path) (sym e) r))

    pub best-low : position < above → IsBest lines ns path above above
    best-low low = record {
      least = omega arith;
      hit = λ h. absurd (omega arith);
      miss = λ n m b r. let a = not-behind m.0 n m.1.0 m.1.1 r in omega arith;
    }

    pub best-here : (rank : ℕ) → IsRaised lines position path above rank → above < rank → IsBest lines ns path above rank
    best-here rank raised h =
        let hit = raised.hit h in
        let next : rank ≡ position + 1 = hit.0 in
        record {
          least = omega arith;
          hit = λ g. (let same : position ≡ rank - 1 = omega arith in subst (RelatesAt lines path) same hit.1);
          miss = λ n m b q. let a = not-behind m.0 n m.1.0 m.1.1 q in omega arith;
        }

    pub missed-more : (rank : ℕ) → IsRaised lines position path above rank → above ≤ position → rank ≤ above → AreMissed lines ns (passed + 1) path
    missed-more rank raised high same k l m r = by (nat_lt k (length ns - passed)) refl
      where
        by : (x : Bool) → nat_lt k (length ns - passed) ≡ x → ⊥
        by true t =
            let b = ltb-true k (length ns - passed) t in
            let next : k ≡ length ns - 1 - passed = omega arith in
            let here : get_or ns k 0 ≡ position = ap (λ (i : ℕ). get_or ns i 0) next ∙ sym is in
            raised.miss (omega arith) (subst (RelatesAt lines path) here r)
        by false f = let b = ltb-false k (length ns - passed) f in missed k l (omega arith) r
