-- The trees of an operation's inputs, by their numbers.
use Rattle.std.specs.Prelude.{◌≡◌, ◌==◌, ℕ, zero, suc, Bool, true, false, ◌||◌, cond, Option, Some, None, List, [], ◌∷◌, ◌++◌, is_some, map, length, bytes_eq, slice_get, slice_index_or}
use Rattle.std.proofs.Common.{sym, ap, refl, ◌∙◌, subst, true≢false, arith}
use Rattle.std.specs.List.{list_any}
use Rattle.std.specs.Cmp.Lexicographic.{texts_ties}
use Rattle.std.proofs.lemmas.Bool.Decides.{nat_tests}
use Rattle.paths.proofs.FrontLaws.{name_same, name_itself}
use Rattle.trees.specs.TreeMap.{TreeMap}
use Rattle.exported.specs.Places.{number_of, with_once, with_place, inputs_after, inputs_of, index_in, index_at}
use Rattle.fileactions.specs.Actions.{tree_at}
use Rattle.fileactions.specs.Claims.{place_tree}

same_bytes : (a b : List ℕ) → bytes_eq a b ≡ true → a ≡ b
same_bytes a b e = name_same a b (sym (texts_ties a b) ∙ e)

bytes_itself : (a : List ℕ) → bytes_eq a a ≡ true
bytes_itself a = texts_ties a a ∙ name_itself a

-- a list of digests has one
abbrev pub has : List (List ℕ) → List ℕ → Bool
has digests digest = list_any (λ other. bytes_eq other digest) digests

has-append : (xs ys : List (List ℕ)) (d : List ℕ) → has (xs ++ ys) d ≡ (has xs d || has ys d)
has-append [] ys d = refl
has-append (x ∷ xs) ys d = ap (λ b. bytes_eq x d || b) (has-append xs ys d) ∙ grouped (bytes_eq x d) (has xs d) (has ys d)
  where
    grouped : (a b c : Bool) → (a || (b || c)) ≡ ((a || b) || c)
    grouped true b c = refl
    grouped false b c = refl

from-left : (a b : Bool) → a ≡ true → (a || b) ≡ true
from-left a b e = ap (λ x. x || b) e

from-right : (a b : Bool) → b ≡ true → (a || b) ≡ true
from-right true b e = refl
from-right false b e = e

eqb-itself : (m n : ℕ) → m ≡ n → (m == n) ≡ true
eqb-itself m n e = grind (arith, nat_tests)

-- one that isn't there has the number of them all
not-there : (digests : List (List ℕ)) (d : List ℕ) → has digests d ≡ false → number_of digests d ≡ length digests
not-there [] d e = refl
not-there (x ∷ xs) d e = by (bytes_eq x d) refl e (not-there xs d)
  where
    by : (b : Bool) → bytes_eq x d ≡ b → (b || has xs d) ≡ false → (has xs d ≡ false → number_of xs d ≡ length xs) → cond b 0 (suc (number_of xs d)) ≡ length (x ∷ xs)
    by true t e later = absurd (true≢false e)
    by false t e later = ap suc (later e)

has-once : (digests : List (List ℕ)) (d : List ℕ) → has (with_once digests d) d ≡ true
has-once digests d = by (has digests d) refl (number_of digests d == length digests) refl
  where
    by : (h : Bool) → has digests d ≡ h → (full : Bool) → (number_of digests d == length digests) ≡ full → has (cond full (digests ++ d ∷ []) digests) d ≡ true
    by h is true f = has-append digests (d ∷ []) d ∙ from-right (has digests d) _ (from-left (bytes_eq d d) false (bytes_itself d))
    by true is false f = is
    by false is false f = absurd (true≢false (sym (eqb-itself (number_of digests d) (length digests) (not-there digests d is)) ∙ f))

kept-once : (digests : List (List ℕ)) (d e : List ℕ) → has digests e ≡ true → has (with_once digests d) e ≡ true
kept-once digests d e h = by (number_of digests d == length digests)
  where
    by : (full : Bool) → has (cond full (digests ++ d ∷ []) digests) e ≡ true
    by true = has-append digests (d ∷ []) e ∙ from-left (has digests e) _ h
    by false = h

kept-place : (digests : List (List ℕ)) (place : Option (List ℕ)) (e : List ℕ) → has digests e ≡ true → has (with_place digests place) e ≡ true
kept-place digests None e h = h
kept-place digests (Some d) e h = kept-once digests d e h

kept-after : (places : List (Option (List ℕ))) (digests : List (List ℕ)) (e : List ℕ) → has digests e ≡ true → has (inputs_after digests places) e ≡ true
kept-after [] digests e h = h
kept-after (place ∷ places) digests e h = kept-after places (with_place digests place) e (kept-place digests place e h)

-- the inputs have the digest of each place
pub has-place : (places : List (Option (List ℕ))) (digests : List (List ℕ)) (k : ℕ) (d : List ℕ) → slice_index_or places k None ≡ Some d → has (inputs_after digests places) d ≡ true
has-place [] digests zero d at = absurd (true≢false (sym (ap is_some at)))
has-place [] digests (suc k) d at = absurd (true≢false (sym (ap is_some at)))
has-place (place ∷ places) digests zero d at = kept-after places (with_place digests place) d (subst (λ (p : Option (List ℕ)). has (with_place digests p) d ≡ true) (sym at) (has-once digests d))
has-place (place ∷ places) digests (suc k) d at = has-place places (with_place digests place) k d at

-- the tree of a digest stands at its number
numbered : (trees : List ℕ → TreeMap) (digests : List (List ℕ)) (more : List TreeMap) (d : List ℕ) → has digests d ≡ true → slice_get (map trees digests ++ more) (number_of digests d) ≡ Some (trees d)
numbered trees [] more d h = absurd (true≢false (sym h))
numbered trees (x ∷ xs) more d h = by (bytes_eq x d) refl h (numbered trees xs more d)
  where
    by : (b : Bool) → bytes_eq x d ≡ b → (b || has xs d) ≡ true → (has xs d ≡ true → slice_get (map trees xs ++ more) (number_of xs d) ≡ Some (trees d))
        → slice_get (trees x ∷ (map trees xs ++ more)) (cond b 0 (suc (number_of xs d))) ≡ Some (trees d)
    by true t e later = ap (λ y. Some (trees y)) (same_bytes x d t)
    by false t e later = later e

-- the tree at a place, whatever follows the inputs
pub tree-of : (trees : List ℕ → TreeMap) (places : List (Option (List ℕ))) (k : ℕ) (more : List TreeMap)
    → tree_at (map trees (inputs_of places) ++ more) (index_at (inputs_of places) places k) ≡ Some (place_tree trees (slice_index_or places k None))
tree-of trees places k more = by (slice_index_or places k None) refl
  where
    by : (o : Option (List ℕ)) → slice_index_or places k None ≡ o → tree_at (map trees (inputs_of places) ++ more) (index_in (inputs_of places) o) ≡ Some (place_tree trees o)
    by None at = refl
    by (Some d) at = numbered trees (inputs_of places) more d (has-place places [] k d at)

-- a tree behind others stands at their number
pub next-tree : (trees : List TreeMap) (tree : TreeMap) (more : List TreeMap) → slice_get (trees ++ tree ∷ more) (length trees) ≡ Some tree
next-tree [] tree more = refl
next-tree (x ∷ xs) tree more = next-tree xs tree more
