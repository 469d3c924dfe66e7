-- From the ranks of single paths to what decides.
use Rattle.std.specs.Prelude.{◌≡◌, ℕ, ◌+◌, ◌-◌, ◌<◌, ◌≤◌, Bool, true, false, List, [], ◌∷◌, ◌++◌, ◌⊎◌, Some, None, take, length, get_or, slice_get, ◌↔◌, nat_lt, IsUtf8}
use Rattle.std.proofs.Common.{sym, ap, refl, ◌∙◌, subst, inl, inr, append_assoc, arith, zero, suc}
use Rattle.std.proofs.lemmas.Bool.{ltb-true, ltb-false}
use Rattle.std.proofs.lemmas.Option.{same_Some, none-some}
use Rattle.std.proofs.lemmas.List.{append-nil, take_more, take_all}
use Rattle.globs.proofs.Cuts.{last-parts, same-ends, nil-parts}
use Rattle.ignorefile.specs.declared.line.Line.{Line}
use Rattle.ignorefile.specs.Line.{Relates, is_deep}
use Rattle.ignorefile.specs.Kept.{Touches, TouchesAt, Kept, IsDeciding, LetsKeep}
use Rattle.ignorefile.specs.declared.positions.Positions.{Positions}
use Rattle.ignorefile.specs.PrivateRanks.{RelatesAt, Member, AreInOrder, IsBest, IsVerdict, IsDecided, Lets, IsShared}
use Rattle.ignorefile.specs.PrivatePositions.{under}
use Rattle.ignorefile.specs.PrivateIndex.{IsIndex, IsFound, named, lying, under_begin}
use Rattle.ignorefile.proofs.Lines.{Holds}

-- a list is empty or has a last element
ends : {A : Type 0} (xs : List A) → (xs ≡ []) ⊎ ((front : List A) × ((last : A) × (xs ≡ front ++ last ∷ [])))
ends [] = inl refl
ends (c ∷ cs) = inr (elim (ends cs) [ inl e ↦ ([], (c, ap (λ x. c ∷ x) e)) | inr w ↦ (c ∷ w.0, (w.1.0, ap (λ x. c ∷ x) w.1.1)) ])

-- a path is its folder's and its last name
pub whole : (names : List (List ℕ)) → 1 ≤ length names → names ≡ take (length names - 1) names ++ get_or names (length names - 1) [] ∷ []
whole names some = sym (take_all (length names - 1 + 1) names (omega arith)) ∙ take_more names (length names - 1) [] (omega arith)

-- the positions under a folder's last name
lying-snoc : (folders : List (List ℕ × List ℕ)) (front : List (List ℕ)) (name : List ℕ) → lying folders (front ++ name ∷ []) ≡ named folders name
lying-snoc folders [] name = refl
lying-snoc folders (x ∷ []) name = refl
lying-snoc folders (x ∷ y ∷ more) name = lying-snoc folders (y ∷ more) name

pub lying-last : (folders : List (List ℕ × List ℕ)) (folder : List (List ℕ)) (name : List ℕ) → 1 ≤ length folder → name ≡ get_or folder (length folder - 1) name → named folders name ≡ lying folders folder
lying-last folders folder name more is =
    sym (lying-snoc folders (take (length folder - 1) folder) name) ∙ ap (lying folders) (sym (last-parts is_deep Holds folder name more is))

snoc-some : {A : Type 0} (xs : List A) (x : A) → 1 ≤ length (xs ++ x ∷ [])
snoc-some [] x = omega arith
snoc-some (y ∷ ys) x = omega arith

-- the index has each line that relates to a path
indexed : (lines : List Line) (entries folders : List (List ℕ × List ℕ)) (begins counts : Positions) (others : List ℕ) → IsIndex lines entries folders begins counts others → (path : List (List ℕ)) (n : ℕ) → RelatesAt lines path n
    → ((Member n others ⊎ Member n (under counts (length path))) ⊎ Member n (lying folders (take (length path - 1) path)))
    ⊎ ((front : List (List ℕ)) × ((last : List ℕ) × ((path ≡ front ++ last ∷ []) × (Member n (under_begin begins last) ⊎ (IsUtf8 last → Member n (named entries last))))))
indexed lines entries folders begins counts others index path n (line, (at, r)) =
    elim (index.there n line at) [
      | inl m ↦ inl (inl (inl m))
      | inr (inl w) ↦ (let v = w.1.0 path r in inr (v.0, (v.1.0, (v.1.1.0, inr (λ utf8. subst (λ (l : List ℕ). Member n (named entries l)) (sym (v.1.1.1 utf8)) w.1.1)))))
      | inr (inr (inl w)) ↦ (let v = w.1.0 path r in inr (v.0, (w.0 ∷ v.1.0, (v.1.1, inl w.1.1))))
      | inr (inr (inr (inl w))) ↦ (let v = w.1.0 path r in inl (inr (subst (Member n) (sym (there v.0 w.0 v.1.0 v.1.1)) w.1.1)))
      | inr (inr (inr (inr w))) ↦ inl (inl (inr (subst (λ (count : ℕ). Member n (under counts count)) (sym (w.1.0 path r)) w.1.1)))
    ]
  where
    there : (front : List (List ℕ)) (name last : List ℕ) → path ≡ (front ++ name ∷ []) ++ last ∷ [] → lying folders (take (length path - 1) path) ≡ named folders name
    there front name last e =
        let some : 1 ≤ length path = subst (λ (p : List (List ℕ)). 1 ≤ length p) (sym e) (snoc-some (front ++ name ∷ []) last) in
        ap (lying folders) (same-ends is_deep Holds (take (length path - 1) path) (front ++ name ∷ []) (get_or path (length path - 1) []) last (sym (whole path some) ∙ e)).0 ∙ lying-snoc folders front name

snoc-nil : {A : Type 0} (xs : List A) (x : A) → [] ≡ xs ++ x ∷ [] → ⊥
snoc-nil xs x e = let n : 0 ≡ length (x ∷ []) = ap length (sym (nil-parts xs (x ∷ []) e).1) in omega arith

-- the positions that a name's begin leads to rise
pub begun-order : (lines : List Line) (entries folders : List (List ℕ × List ℕ)) (begins counts : Positions) (others : List ℕ) → IsIndex lines entries folders begins counts others → (name : List ℕ) → AreInOrder (length lines) (under_begin begins name)
begun-order lines entries folders begins counts others index [] = record { within = λ n m. absurd (let l = m.1.0 in omega arith); rise = λ i j l m. absurd (omega arith) }
begun-order lines entries folders begins counts others index (byte ∷ rest) = index.begun_order byte

-- and those that a folder's name leads to
pub lying-order : (lines : List Line) (entries folders : List (List ℕ × List ℕ)) (begins counts : Positions) (others : List ℕ) → IsIndex lines entries folders begins counts others → (folder : List (List ℕ)) → AreInOrder (length lines) (lying folders folder)
lying-order lines entries folders begins counts others index [] = record { within = λ n m. absurd (let l = m.1.0 in omega arith); rise = λ i j l m. absurd (omega arith) }
lying-order lines entries folders begins counts others index (name ∷ []) = index.lying_order name
lying-order lines entries folders begins counts others index (name ∷ other ∷ more) = lying-order lines entries folders begins counts others index (other ∷ more)

-- of two ranks behind one another the last one that is greater
later-hit : (lines : List Line) (path : List (List ℕ)) (above middle rank : ℕ) → middle ≤ rank → (above < middle → RelatesAt lines path (middle - 1)) → (middle < rank → RelatesAt lines path (rank - 1)) → above < rank → RelatesAt lines path (rank - 1)
later-hit lines path above middle rank up before after h = by (nat_lt middle rank) refl
  where
    by : (x : Bool) → nat_lt middle rank ≡ x → RelatesAt lines path (rank - 1)
    by true e = after (ltb-true middle rank e)
    by false e = let b = ltb-false middle rank e in let same : middle ≡ rank = omega arith in subst (λ (x : ℕ). RelatesAt lines path (x - 1)) same (before (omega arith))

module _ (lines : List Line) (entries folders : List (List ℕ × List ℕ)) (begins counts : Positions) (others : List ℕ) (index : IsIndex lines entries folders begins counts others) (path : List (List ℕ)) (above least low middle : ℕ)
    (lies : IsBest lines (lying folders (take (length path - 1) path)) path above least) (first : IsBest lines others path least low) (second : IsBest lines (under counts (length path)) path low middle) where
  middle-hit : above < middle → RelatesAt lines path (middle - 1)
  middle-hit h = later-hit lines path above low middle second.least (later-hit lines path above least low first.least lies.hit first.hit) second.hit h

  middle-miss : (n : ℕ) → middle ≤ n → RelatesAt lines path n → (Member n others ⊎ Member n (under counts (length path))) ⊎ Member n (lying folders (take (length path - 1) path)) → ⊥
  middle-miss n b r (inl (inl m)) = let l = second.least in first.miss n m (omega arith) r
  middle-miss n b r (inl (inr m)) = second.miss n m b r
  middle-miss n b r (inr m) = let k = first.least in let l = second.least in lies.miss n m (omega arith) r

  -- with what is found by the last name
  pub verdict-found : (rank : ℕ) → IsFound lines entries begins path middle rank → IsVerdict lines path above rank
  verdict-found rank found = record {
    least = let z = lies.least in let a = first.least in let b = second.least in let c = found.least in omega arith;
    hit = λ h. later-hit lines path above middle rank found.least middle-hit found.hit h;
    miss = λ n b r. elim (indexed lines entries folders begins counts others index path n r) [
      | inl m ↦ let l = found.least in middle-miss n (omega arith) r m
      | inr w ↦ found.miss w.0 w.1.0 w.1.1.0 n w.1.1.1 b r
    ];
  }

-- ---- what is found by a path's last name

pub found-root : (lines : List Line) (entries : List (List ℕ × List ℕ)) (begins : Positions) (path : List (List ℕ)) (above : ℕ) → length path < 1 → IsFound lines entries begins path above above
found-root lines entries begins path above none = record {
  least = omega arith;
  hit = λ h. absurd (omega arith);
  miss = λ front last e n m b r. snoc-nil front last (sym (empty path none) ∙ e);
}
  where
    empty : (p : List (List ℕ)) → length p < 1 → p ≡ []
    empty [] h = refl
    empty (x ∷ xs) h = absurd (omega arith)

module _ (lines : List Line) (entries : List (List ℕ × List ℕ)) (begins : Positions) (path : List (List ℕ)) (above : ℕ) where
  same-last : (last : List ℕ) → 1 ≤ length path → last ≡ get_or path (length path - 1) last → (front : List (List ℕ)) (name : List ℕ) → path ≡ front ++ name ∷ [] → name ≡ last
  same-last last more is front name e = (same-ends is_deep Holds front (take (length path - 1) path) name last (sym e ∙ last-parts is_deep Holds path last more is)).1

  module _ (last : List ℕ) (high rank : ℕ) (first : IsBest lines (under_begin begins last) path above high) (second : IsBest lines (named entries last) path high rank) where
    last-miss : (n : ℕ) (name : List ℕ) → rank ≤ n → RelatesAt lines path n → IsUtf8 last → name ≡ last → Member n (under_begin begins name) ⊎ (IsUtf8 name → Member n (named entries name)) → ⊥
    last-miss n name b r utf8 same (inl m) = let l = second.least in first.miss n (subst (Member n) (ap (under_begin begins) same) m) (omega arith) r
    last-miss n name b r utf8 same (inr m) = second.miss n (subst (Member n) (ap (named entries) same) (m (subst IsUtf8 (sym same) utf8))) b r

    pub found-some : 1 ≤ length path → last ≡ get_or path (length path - 1) last → IsUtf8 last → IsFound lines entries begins path above rank
    found-some more is utf8 = record {
      least = let a = first.least in let b = second.least in omega arith;
      hit = λ h. later-hit lines path above high rank second.least first.hit second.hit h;
      miss = λ front name e n m b r. last-miss n name b r utf8 (same-last last more is front name e) m;
    }

-- ---- handed down

touches-here : (line : Line) (path : List (List ℕ)) → Relates line path → Touches line path
touches-here line path r = (path, ([], (sym (append-nil path), r)))

touches-more : (line : Line) (path : List (List ℕ)) (name : List ℕ) → Touches line path → Touches line (path ++ name ∷ [])
touches-more line path name (front, (rest, (e, r))) = (front, (rest ++ name ∷ [], (ap (λ l. l ++ name ∷ []) e ∙ append_assoc front rest (name ∷ []), r)))

touches-step : (line : Line) (path : List (List ℕ)) (name : List ℕ) → Touches line (path ++ name ∷ []) → Touches line path ⊎ Relates line (path ++ name ∷ [])
touches-step line path name (front, (rest, (e, r))) = by (ends rest)
  where
    by : (rest ≡ []) ⊎ ((others : List (List ℕ)) × ((last : List ℕ) × (rest ≡ others ++ last ∷ []))) → Touches line path ⊎ Relates line (path ++ name ∷ [])
    by (inl none) = inr (subst (Relates line) (sym (e ∙ ap (λ l. front ++ l) none ∙ append-nil front)) r)
    by (inr w) =
        let same = same-ends is_deep Holds path (front ++ w.0) name w.1.0 (e ∙ ap (λ l. front ++ l) w.1.1 ∙ sym (append_assoc front w.0 (w.1.0 ∷ []))) in
        inl (front, (w.0, (same.0, r)))

pub decided-start : (lines : List Line) (rank : ℕ) → IsVerdict lines [] 0 rank → IsDecided lines [] rank
decided-start lines rank v = record {
  hit = λ h. let w = v.hit h in (w.0, (w.1.0, touches-here w.0 [] w.1.1));
  miss = λ n b t. v.miss n b (t.0, (t.1.0, subst (Relates t.0) (nil-parts t.1.1.0 t.1.1.1.0 t.1.1.1.1.0).0 t.1.1.1.1.1));
}

-- what is decided of a folder is handed down to what lies in it
pub decided-step : (lines : List Line) (path : List (List ℕ)) (name : List ℕ) (before rank : ℕ) → IsDecided lines path before → IsVerdict lines (path ++ name ∷ []) before rank → IsDecided lines (path ++ name ∷ []) rank
decided-step lines path name before rank d v = record {
  hit = λ h. hits (nat_lt before rank) refl h;
  miss = λ n b t. elim (touches-step t.0 path name t.1.1) [
    | inl q ↦ let l = v.least in d.miss n (omega arith) (t.0, (t.1.0, q))
    | inr r ↦ v.miss n b (t.0, (t.1.0, r))
  ];
}
  where
    hits : (x : Bool) → nat_lt before rank ≡ x → 0 < rank → TouchesAt lines (path ++ name ∷ []) (rank - 1)
    hits true e h = let w = v.hit (ltb-true before rank e) in (w.0, (w.1.0, touches-here w.0 (path ++ name ∷ []) w.1.1))
    hits false e h =
        let b = ltb-false before rank e in let a = v.least in
        let same : before ≡ rank = omega arith in
        let w = d.hit (omega arith) in
        subst (λ (x : ℕ). TouchesAt lines (path ++ name ∷ []) (x - 1)) same (w.0, (w.1.0, touches-more w.0 path name w.1.1))

get-within : (lines : List Line) (n : ℕ) (line : Line) → slice_get lines n ≡ Some line → n < length lines
get-within [] n line e = absurd (none-some line e)
get-within (x ∷ xs) zero line e = omega arith
get-within (x ∷ xs) (suc n) line e = let l = get-within xs n line e in omega arith

pub decided-within : (lines : List Line) (path : List (List ℕ)) (rank : ℕ) → IsDecided lines path rank → rank ≤ length lines
decided-within lines path zero d = omega arith
decided-within lines path (suc r) d = let w = d.hit (omega arith) in let l = get-within lines (suc r - 1) w.0 w.1.0 in omega arith

-- the last line that touches a path decides
pub decided-kept : (lines : List Line) (path : List (List ℕ)) (rank : ℕ) → IsDecided lines path rank → Lets lines rank ↔ Kept lines path
decided-kept lines path rank d = (λ l. there (nat_lt 0 rank) refl l, λ k. back (nat_lt 0 rank) refl k)
  where
    there : (x : Bool) → nat_lt 0 rank ≡ x → Lets lines rank → Kept lines path
    there false e l = inl (λ n t. d.miss n (let b = ltb-false 0 rank e in omega arith) t)
    there true e (inl z) = absurd (let b = ltb-true 0 rank e in omega arith)
    there true e (inr (line, (at, ex))) =
        let b = ltb-true 0 rank e in
        let w = d.hit b in
        inr (rank - 1, (line, (at, (subst (λ (x : Line). Touches x path) (same_Some w.0 line (sym w.1.0 ∙ at)) w.1.1, (ex, λ m l t. d.miss m (omega arith) t)))))

    back : (x : Bool) → nat_lt 0 rank ≡ x → Kept lines path → Lets lines rank
    back false e k = inl (let b = ltb-false 0 rank e in omega arith)
    back true e (inl none) = absurd (none (rank - 1) (d.hit (ltb-true 0 rank e)))
    back true e (inr (n, (line, (at, (t, (ex, last)))))) =
        by (nat_lt n (rank - 1)) refl (nat_lt n rank) refl
      where
        by : (y : Bool) → nat_lt n (rank - 1) ≡ y → (z : Bool) → nat_lt n rank ≡ z → Lets lines rank
        by true f z g = absurd (last (rank - 1) (ltb-true n (rank - 1) f) (d.hit (ltb-true 0 rank e)))
        by false f false g = absurd (d.miss n (ltb-false n rank g) (line, (at, t)))
        by false f true g =
            let a = ltb-false n (rank - 1) f in let b = ltb-true n rank g in
            let same : n ≡ rank - 1 = omega arith in
            inr (line, (subst (λ (x : ℕ). slice_get lines x ≡ Some line) same at, ex))

-- which line that is
pub deciding-none : (lines : List Line) (path : List (List ℕ)) (rank : ℕ) → rank ≡ 0 → IsDecided lines path rank → IsDeciding lines path None
deciding-none lines path rank none d n t = d.miss n (omega arith) t

pub deciding-some : (lines : List Line) (path : List (List ℕ)) (rank : ℕ) → 0 < rank → IsDecided lines path rank → IsDeciding lines path (Some (rank - 1))
deciding-some lines path rank some d = (d.hit some, λ m l t. d.miss m (omega arith) t)

pub keeps-none : (lines : List Line) (path : List (List ℕ)) (rank : ℕ) → rank ≡ 0 → IsDecided lines path rank → Kept lines path ↔ LetsKeep lines None
keeps-none lines path rank none d = (λ k. tt, λ t. (decided-kept lines path rank d).0 (inl none))

pub keeps-some : (lines : List Line) (path : List (List ℕ)) (rank : ℕ) → 0 < rank → IsDecided lines path rank → Kept lines path ↔ LetsKeep lines (Some (rank - 1))
keeps-some lines path rank some d =
    let both = decided-kept lines path rank d in
    (λ k. elim (both.1 k) [ inl z ↦ absurd (omega arith) | inr w ↦ w ], λ w. both.0 (inr w))

-- ---- the same values under other names

pub moved-order : (ls lines : List Line) (ms ns : List ℕ) → ls ≡ lines → ms ≡ ns → AreInOrder (length lines) ns → AreInOrder (length ls) ms
moved-order ls lines ms ns l m w = subst (λ (x : List Line). AreInOrder (length x) ms) (sym l) (subst (AreInOrder (length lines)) (sym m) w)

pub moved-best : (ls lines : List Line) (ms ns : List ℕ) (path : List (List ℕ)) (above rank : ℕ) → ls ≡ lines → ms ≡ ns → IsBest ls ms path above rank → IsBest lines ns path above rank
moved-best ls lines ms ns path above rank l m b = subst (λ (x : List Line). IsBest x ns path above rank) l (subst (λ (x : List ℕ). IsBest ls x path above rank) m b)

pub moved-verdict : (lines value : List Line) (path : List (List ℕ)) (above rank : ℕ) → lines ≡ value → IsVerdict lines path above rank → IsVerdict value path above rank
moved-verdict lines value path above rank l v = subst (λ (x : List Line). IsVerdict x path above rank) l v

pub decided-more : (lines : List Line) (names front : List (List ℕ)) (d before rank : ℕ) → d < length names → front ≡ take (d + 1) names → IsDecided lines (take d names) before → IsVerdict lines front before rank → IsDecided lines (take (d + 1) names) rank
decided-more lines names front d before rank l is dec v =
    let e = take_more names d [] l in
    subst (λ (x : List (List ℕ)). IsDecided lines x rank) (sym e) (decided-step lines (take d names) (get_or names d []) before rank dec (subst (λ (x : List (List ℕ)). IsVerdict lines x before rank) (is ∙ e) v))

pub decided-path : (lines : List Line) (names path : List (List ℕ)) (d rank : ℕ) → length names ≤ d → names ≡ path → IsDecided lines (take d names) rank → IsDecided lines path rank
decided-path lines names path d rank l is dec = subst (λ (x : List (List ℕ)). IsDecided lines x rank) (take_all d names l ∙ is) dec

-- what is decided of a folder, handed down to a path that lies right in it
pub decided-below : (lines : List Line) (above names path : List (List ℕ)) (shared before rank : ℕ) → IsShared above names shared → shared ≡ length above → length names ≡ length above + 1 → names ≡ path → IsDecided lines above before → IsVerdict lines names before rank
    → IsDecided lines path rank
decided-below lines above names path shared before rank s whole-of longer is dec v =
    let same : above ≡ take (length above) names = sym (take_all (length above) above (omega arith)) ∙ subst (λ (n : ℕ). take n above ≡ take n names) whole-of s.same in
    decided-path lines names path (length above + 1) rank (omega arith) is
    (decided-more lines names names (length above) before rank (omega arith) (sym (take_all (length above + 1) names (omega arith))) (subst (λ (x : List (List ℕ)). IsDecided lines x before) same dec) v)

pub decided-all : (lines : List Line) (names path : List (List ℕ)) (d rank : ℕ) → length names ≤ d → names ≡ path → IsDecided lines (take d names) rank → Lets lines rank ↔ Kept lines path
decided-all lines names path d rank l is dec = decided-kept lines path rank (decided-path lines names path d rank l is dec)
