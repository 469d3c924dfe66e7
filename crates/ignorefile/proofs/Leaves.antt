-- Leaves: what is known of the end of their lines' paths, and the greatest rank of those of their lines that relate to a path.
use Rattle.std.specs.Prelude.{◌≡◌, ℕ, ◌-◌, ◌<◌, ◌≤◌, Bool, false, List, [], ◌∷◌, ◌++◌, ◌⊎◌, Option, Some, None, length, take, get_or, slice_get}
use Rattle.std.proofs.Common.{sym, ap, refl, ◌∙◌, subst, inl, inr, true≢false, arith, zero, suc, eq-eqb}
use Rattle.std.specs.Option.{IfSome}
use Rattle.std.proofs.lemmas.Option.{same_Some, none-some}
use Rattle.std.proofs.lemmas.List.{get_or-map, length-map, map-append}
use Rattle.globs.proofs.Cuts.{last-parts, same-ends}
use Rattle.ignorefile.specs.declared.line.Line.{Line}
use Rattle.ignorefile.specs.declared.index.Leaf.{Leaf}
use Rattle.ignorefile.specs.Line.{is_deep}
use Rattle.ignorefile.specs.PrivateRanks.{LastEnds, RelatesAt, IsRaised}
use Rattle.ignorefile.specs.PrivateLeft.{IsLeafOf, AreLeavesOf, IsLastByte, may_take, positions_in}
use Rattle.ignorefile.proofs.Lines.{Holds}

item-at : {A : Type 0} (xs : List A) (n : ℕ) (d : A) → n < length xs → slice_get xs n ≡ Some (get_or xs n d)
item-at [] n d l = absurd (omega arith)
item-at (x ∷ xs) zero d l = refl
item-at (x ∷ xs) (suc n) d l = item-at xs n d (omega arith)

item-snoc : {A : Type 0} (xs : List A) (x y : A) (n : ℕ) → slice_get (xs ++ x ∷ []) n ≡ Some y → (slice_get xs n ≡ Some y) ⊎ (x ≡ y)
item-snoc [] x y zero e = inr (same_Some x y e)
item-snoc [] x y (suc n) e = absurd (none-some y e)
item-snoc (z ∷ zs) x y zero e = inl e
item-snoc (z ∷ zs) x y (suc n) e = item-snoc zs x y n e

snoc-some : {A : Type 0} (xs : List A) (x : A) → length (xs ++ x ∷ []) < 1 → ⊥
snoc-some [] x l = omega arith
snoc-some (y ∷ ys) x l = omega arith

-- ---- the byte that a path's last name ends with

pub last-none : (path : List (List ℕ)) (last : Option ℕ) → length path < 1 → IsLastByte path last
last-none path last none front begin byte e = absurd (snoc-some front (begin ++ byte ∷ []) (subst (λ (p : List (List ℕ)). length p < 1) e none))

-- the name that a path ends in ends as the path does
ends-as : (path : List (List ℕ)) (name : List ℕ) → 1 ≤ length path → name ≡ get_or path (length path - 1) name → (front : List (List ℕ)) (other : List ℕ) → path ≡ front ++ other ∷ [] → other ≡ name
ends-as path name more is front other e = (same-ends is_deep Holds front (take (length path - 1) path) other name (sym e ∙ last-parts is_deep Holds path name more is)).1

pub last-empty : (path : List (List ℕ)) (name bytes : List ℕ) → 1 ≤ length path → name ≡ get_or path (length path - 1) name → bytes ≡ name → length bytes < 1 → IsLastByte path None
last-empty path name bytes more is same none front begin byte e =
    let ends = ends-as path name more is front (begin ++ byte ∷ []) e in absurd (snoc-some begin byte (subst (λ (p : List ℕ). length p < 1) (same ∙ sym ends) none))

pub last-some : (path : List (List ℕ)) (name bytes : List ℕ) (last : ℕ) → 1 ≤ length path → name ≡ get_or path (length path - 1) name → bytes ≡ name → 1 ≤ length bytes → last ≡ get_or bytes (length bytes - 1) last → IsLastByte path (Some last)
last-some path name bytes last more is same some end front begin byte e =
    let ends = ends-as path name more is front (begin ++ byte ∷ []) e in
    ap Some (sym (same-ends is_deep Holds begin (take (length bytes - 1) bytes) byte last (ends ∙ sym same ∙ last-bytes)).1)
  where
    last-bytes : bytes ≡ take (length bytes - 1) bytes ++ last ∷ []
    last-bytes = last-parts is_deep Holds bytes last some end

-- ---- leaves

pub leaf-of : (lines : List Line) (leaf : Leaf) (n : ℕ) (line : Line) (end : Option ℕ) → leaf.position ≡ n → leaf.end ≡ end → slice_get lines n ≡ Some line → IfSome end (λ byte. LastEnds line byte) → IsLeafOf lines leaf
leaf-of lines leaf n line end here is at known other there =
    subst (λ (l : Line). IfSome leaf.end (λ byte. LastEnds l byte)) (same_Some line other (sym at ∙ sym (ap (slice_get lines) here) ∙ there))
    (subst (λ (e : Option ℕ). IfSome e (λ byte. LastEnds line byte)) (sym is) known)

-- where a path ends with another byte than a leaf's line, the line doesn't relate to it
unleafed : (lines : List Line) (leaf : Leaf) (path : List (List ℕ)) (last : Option ℕ) → IsLeafOf lines leaf → IsLastByte path last → may_take leaf.end last ≡ false → RelatesAt lines path leaf.position → ⊥
unleafed lines leaf path last known is off (line, (at, r)) = by leaf.end (known line at) off
  where
    by : (end : Option ℕ) → IfSome end (λ byte. LastEnds line byte) → may_take end last ≡ false → ⊥
    by None k other = true≢false other
    by (Some byte) k other =
        let w = k path r in
        let same : last ≡ Some byte = is w.0 w.1.0 byte w.1.1 in
        true≢false (sym (eq-eqb byte byte refl) ∙ ap (may_take (Some byte)) (sym same) ∙ other)

pub raised-off : (lines : List Line) (leaf : Leaf) (path : List (List ℕ)) (last : Option ℕ) (above : ℕ) (may : Bool) → IsLeafOf lines leaf → IsLastByte path last → may ≡ may_take leaf.end last → may ≡ false → IsRaised lines leaf.position path above above
raised-off lines leaf path last above may known is same off = record { least = omega arith; hit = λ h. absurd (omega arith); miss = λ h r. unleafed lines leaf path last known is (sym same ∙ off) r }

pub leaves-none : (lines : List Line) (leaves : List Leaf) → leaves ≡ [] → AreLeavesOf lines leaves
leaves-none lines leaves none i leaf at = absurd (none-some leaf (ap (λ (l : List Leaf). slice_get l i) (sym none) ∙ at))

pub leaves-more : (lines : List Line) (leaves more : List Leaf) (leaf : Leaf) → AreLeavesOf lines leaves → IsLeafOf lines leaf → more ≡ leaves ++ leaf ∷ [] → AreLeavesOf lines more
leaves-more lines leaves more leaf all one grown i other at =
    elim (item-snoc leaves leaf other i (ap (λ (l : List Leaf). slice_get l i) (sym grown) ∙ at)) [ inl there ↦ all i other there | inr same ↦ subst (IsLeafOf lines) same one ]

pub positions-more : (leaves more : List Leaf) (leaf : Leaf) (position : ℕ) → more ≡ leaves ++ leaf ∷ [] → leaf.position ≡ position → positions_in more ≡ positions_in leaves ++ position ∷ []
positions-more leaves more leaf position grown here =
    ap positions_in grown ∙ map-append (λ leaf. leaf.position) leaves (leaf ∷ []) ∙ ap (λ (n : ℕ). positions_in leaves ++ n ∷ []) here

-- the leaf that is tried next
module _ (lines : List Line) (leaves : List Leaf) (passed : ℕ) (less : passed < length leaves) where
  abbrev next : Leaf
  next = get_or leaves (length leaves - 1 - passed) (record { position = 0; end = None })

  pub next-known : AreLeavesOf lines leaves → IsLeafOf lines next
  next-known known = known (length leaves - 1 - passed) next (item-at leaves (length leaves - 1 - passed) (record { position = 0; end = None }) (omega arith))

  pub next-less : passed < length (positions_in leaves)
  next-less = let same : length (positions_in leaves) ≡ length leaves = length-map leaves (λ leaf. leaf.position) in omega arith

  pub next-position : next.position ≡ get_or (positions_in leaves) (length (positions_in leaves) - 1 - passed) 0
  next-position =
      sym (get_or-map (λ leaf. leaf.position) leaves (length leaves - 1 - passed) (record { position = 0; end = None }) 0 (omega arith))
      ∙ ap (λ (n : ℕ). get_or (positions_in leaves) (n - 1 - passed) 0) (sym (length-map leaves (λ leaf. leaf.position)))
