-- What a folder's names leave of the lines.
use Rattle.std.specs.Prelude.{◌≡◌, ℕ, ◌+◌, ◌-◌, ◌<◌, ◌≤◌, Bool, true, false, List, [], ◌∷◌, ◌++◌, take, length, get_or, nat_lt, not, ◌↔◌, IsTrue}
use Rattle.std.proofs.Common.{sym, ap, refl, ◌∙◌, subst, inl, inr, true≢false, arith}
use Rattle.std.proofs.lemmas.Bool.{ltb-true, ltb-false}
use Rattle.globs.specs.Cut.{CanBeCut}
use Rattle.globs.proofs.Cuts.{on-back}
use Rattle.ignorefile.specs.declared.line.Segment.{Segment}
use Rattle.ignorefile.specs.declared.line.Line.{Line}
use Rattle.ignorefile.specs.Line.{is_deep}
use Rattle.ignorefile.specs.PrivateRanks.{RelatesAt, Member, AreInOrder, IsBest, IsShared}
use Rattle.ignorefile.specs.PrivateLeft.{IsDeadIn, IsDeadAt, StandFor, StandIn, IsLeft, positions_in}
use Rattle.ignorefile.specs.declared.index.Index.{Index}
use Rattle.ignorefile.specs.declared.index.Left.{Left}
use Rattle.ignorefile.specs.PrivatePositions.{under}
use Rattle.ignorefile.specs.PrivateIndex.{lying}
use Rattle.std.proofs.lemmas.List.{take-take, length-take-le}
use Rattle.ignorefile.proofs.Lines.{Holds, line-at, relates-at}
use Rattle.ignorefile.proofs.Deciding.{whole}
use Rattle.ignorefile.proofs.Handing.{member-either, member-more, member-new, get-front, get-end, length-snoc}

none-of : (b : Bool) (P : Type 0) → (IsTrue b ↔ P) → IsTrue (not b) → P → ⊥
none-of true P both none p = absurd (true≢false (sym none))
none-of false P both none p = absurd (true≢false (sym (both.1 p)))

-- where the segments before the last one don't relate to a folder, the line relates to no path right in it
pub dead : (line : Line) (segments : List Segment) (last : Segment) (folder : List (List ℕ)) → segments ≡ line.segments → 1 ≤ length segments → last ≡ get_or segments (length segments - 1) last → is_deep last ≡ false → (cut : Bool)
    → (IsTrue cut ↔ CanBeCut is_deep Holds (take (length segments - 1) segments) folder) → IsTrue (not cut) → IsDeadIn line folder
dead line segments last folder same more is one cut both none name r =
    none-of cut (CanBeCut is_deep Holds (take (length segments - 1) segments) folder) both none ((on-back is_deep Holds segments last (folder ++ name ∷ []) name folder more is refl one).0 (subst (λ (l : List Segment). CanBeCut is_deep Holds l (folder ++ name ∷ [])) (sym same) r)).1

pub dead-at : (lines : List Line) (n : ℕ) (line : Line) (folder : List (List ℕ)) → n < length lines → line ≡ get_or lines n line → IsDeadIn line folder → IsDeadAt lines n folder
dead-at lines n line folder less is off name r = off name (relates-at lines (folder ++ name ∷ []) n line (line-at lines n line less is) r)

-- ---- positions that stand for others

pub best-stands : (lines : List Line) (ns left : List ℕ) (path : List (List ℕ)) (above rank : ℕ) → StandFor lines ns path left → IsBest lines left path above rank → IsBest lines ns path above rank
best-stands lines ns left path above rank stand best = record { least = best.least; hit = best.hit; miss = λ n m b r. best.miss n (stand.there n m r) b r }

-- those of the first positions that are left
pub record AreLeft (lines : List Line) (ns : List ℕ) (k : ℕ) (folder : List (List ℕ)) (left : List ℕ) : Type 0 where
  pub order : AreInOrder (length lines) left
  pub of : (n : ℕ) → Member n left → (i : ℕ) × ((i < k) × (get_or ns i 0 ≡ n))
  pub there : (i : ℕ) (name : List ℕ) → i < k → RelatesAt lines (folder ++ name ∷ []) (get_or ns i 0) → Member (get_or ns i 0) left

pub left-none : (lines : List Line) (ns : List ℕ) (folder : List (List ℕ)) (left : List ℕ) → left ≡ [] → AreLeft lines ns 0 folder left
left-none lines ns folder left none = subst (AreLeft lines ns 0 folder) (sym none) (record {
  order = record { within = λ n m. absurd (let l = m.1.0 in omega arith); rise = λ i j l m. absurd (omega arith) };
  of = λ n m. absurd (let l = m.1.0 in omega arith);
  there = λ i name l r. absurd (omega arith);
})

pub left-all : (lines : List Line) (ns : List ℕ) (k : ℕ) (folder : List (List ℕ)) (left : List ℕ) → length ns ≤ k → AreLeft lines ns k folder left → StandIn lines ns folder left
left-all lines ns k folder left all a name = record {
  order = a.order;
  there = λ n m r. (let l = m.1.0 in subst (λ (x : ℕ). Member x left) m.1.1 (a.there m.0 name (omega arith) (subst (RelatesAt lines (folder ++ name ∷ [])) (sym m.1.1) r)));
}

module _ (lines : List Line) (ns : List ℕ) (k position : ℕ) (folder : List (List ℕ)) (left : List ℕ) (order : AreInOrder (length lines) ns) (less : k < length ns) (is : position ≡ get_or ns k 0) (a : AreLeft lines ns k folder left) where
  pub left-within : position < length lines
  left-within = order.within position (k, (less, sym is))

  before : (i : ℕ) → i < length left → get_or left i 0 < position
  before i l =
      let w = a.of (get_or left i 0) (i, (l, refl)) in
      let at = w.1.1 in let r = order.rise w.0 k w.1.0 less in omega arith

  snoc-rise : (i j : ℕ) → i < j → j < length (left ++ position ∷ []) → get_or (left ++ position ∷ []) i 0 < get_or (left ++ position ∷ []) j 0
  snoc-rise i j l m = by (nat_lt j (length left)) refl
    where
      by : (x : Bool) → nat_lt j (length left) ≡ x → get_or (left ++ position ∷ []) i 0 < get_or (left ++ position ∷ []) j 0
      by true e =
          let h = ltb-true j (length left) e in
          let f = get-front left position i (omega arith) in let b = get-front left position j h in let r = a.order.rise i j l h in omega arith
      by false e =
          let h = ltb-false j (length left) e in
          let s = length-snoc left position in
          let f = get-front left position i (omega arith) in let b = get-end left position j (omega arith) in
          let w = before i (omega arith) in omega arith

  -- one more is left
  pub left-more : (left' : List ℕ) → left' ≡ left ++ position ∷ [] → AreLeft lines ns (k + 1) folder left'
  left-more left' grown = subst (AreLeft lines ns (k + 1) folder) (sym grown) (record {
    order = record {
      within = λ n m. elim (member-either left position n m) [ inl w ↦ a.order.within n w | inr w ↦ (let l = left-within in omega arith) ];
      rise = snoc-rise;
    };
    of = λ n m. elim (member-either left position n m) [ inl w ↦ (let o = a.of n w in let l = o.1.0 in (o.0, (omega arith, o.1.1))) | inr w ↦ (k, (omega arith, sym is ∙ sym w)) ];
    there = λ i name l r. by i name l r (nat_lt i k) refl;
  })
    where
      by : (i : ℕ) (name : List ℕ) → i < k + 1 → RelatesAt lines (folder ++ name ∷ []) (get_or ns i 0) → (x : Bool) → nat_lt i k ≡ x → Member (get_or ns i 0) (left ++ position ∷ [])
      by i name l r true e = member-more left position (get_or ns i 0) (a.there i name (ltb-true i k e) r)
      by i name l r false e =
          let b = ltb-false i k e in
          let same : k ≡ i = omega arith in
          subst (λ (x : ℕ). Member x (left ++ position ∷ [])) (is ∙ ap (λ (x : ℕ). get_or ns x 0) same) (member-new left position)

  -- a dead one is dropped
  pub left-dropped : (left' : List ℕ) → left' ≡ left → IsDeadAt lines position folder → AreLeft lines ns (k + 1) folder left'
  left-dropped left' same off = subst (AreLeft lines ns (k + 1) folder) (sym same) (record {
    order = a.order;
    of = λ n m. (let o = a.of n m in let l = o.1.0 in (o.0, (omega arith, o.1.1)));
    there = λ i name l r. by i name l r (nat_lt i k) refl;
  })
    where
      by : (i : ℕ) (name : List ℕ) → i < k + 1 → RelatesAt lines (folder ++ name ∷ []) (get_or ns i 0) → (x : Bool) → nat_lt i k ≡ x → Member (get_or ns i 0) left
      by i name l r true e = a.there i name (ltb-true i k e) r
      by i name l r false e =
          let b = ltb-false i k e in
          let same : i ≡ k = omega arith in
          absurd (off name (subst (RelatesAt lines (folder ++ name ∷ [])) (ap (λ (x : ℕ). get_or ns x 0) same ∙ sym is) r))

-- what a folder leaves, for a path right in it
pub left-lying : (lines : List Line) (index : Index) (names : List (List ℕ)) (left : Left) → 1 ≤ length names → IsLeft lines index (take (length names - 1) names) left
    → StandFor lines (lying index.by_folder.entries (take (length names - 1) names)) names (positions_in left.lying)
left-lying lines index names left some l =
    subst (λ (p : List (List ℕ)). StandFor lines (lying index.by_folder.entries (take (length names - 1) names)) p (positions_in left.lying)) (sym (whole names some)) (l.lying.stand (get_or names (length names - 1) []))

pub left-others : (lines : List Line) (index : Index) (names : List (List ℕ)) (left : Left) → 1 ≤ length names → IsLeft lines index (take (length names - 1) names) left → StandFor lines index.others names (positions_in left.others)
left-others lines index names left some l =
    subst (λ (p : List (List ℕ)). StandFor lines index.others p (positions_in left.others)) (sym (whole names some)) (l.others.stand (get_or names (length names - 1) []))

pub left-counted : (lines : List Line) (index : Index) (names : List (List ℕ)) (left : Left) → 1 ≤ length names → IsLeft lines index (take (length names - 1) names) left → StandFor lines (under index.by_count (length names)) names (positions_in left.counted)
left-counted lines index names left some l =
    let folder = take (length names - 1) names in
    let name = get_or names (length names - 1) [] in
    let count : length folder + 1 ≡ length names = sym (length-snoc folder name) ∙ ap (λ (p : List (List ℕ)). length p) (sym (whole names some)) in
    subst (λ (p : List (List ℕ)). StandFor lines (under index.by_count (length names)) p (positions_in left.counted)) (sym (whole names some))
    (subst (λ (n : ℕ). StandFor lines (under index.by_count n) (folder ++ name ∷ []) (positions_in left.counted)) count (l.counted.stand name))

-- two paths that share their folders' names lie in one folder
pub one-folder : (lines : List Line) (index : Index) (last names old folder : List (List ℕ)) (shared : ℕ) (left : Left) → IsShared last names shared → old ≡ take (length last - 1) last → folder ≡ take (length names - 1) names → length folder ≤ shared → length folder ≡ length old
    → IsLeft lines index (take (length last - 1) last) left → IsLeft lines index (take (length names - 1) names) left
one-folder lines index last names old folder shared left s old-is is within same l = subst (λ (p : List (List ℕ)). IsLeft lines index p left) both l
  where
    count : (path : List (List ℕ)) → length (take (length path - 1) path) ≡ length path - 1
    count path = length-take-le (length path - 1) path (omega arith)

    those : length last - 1 ≡ length names - 1
    those = sym (count last) ∙ sym (ap (λ (p : List (List ℕ)). length p) old-is) ∙ sym same ∙ ap (λ (p : List (List ℕ)). length p) is ∙ count names

    few : length names - 1 ≤ shared
    few = let c : length folder ≡ length names - 1 = ap (λ (p : List (List ℕ)). length p) is ∙ count names in omega arith

    both : take (length last - 1) last ≡ take (length names - 1) names
    both = ap (λ (n : ℕ). take n last) those ∙ sym (take-take (length names - 1) shared last few) ∙ ap (take (length names - 1)) s.same ∙ take-take (length names - 1) shared names few
