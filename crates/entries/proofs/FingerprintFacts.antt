-- What fingerprints tell: rows with different ones, on whose ways no file has one, are apart.
use Rattle.std.specs.Prelude.{◌≡◌, ◌↔◌, ℕ, suc, ◌<◌, Bool, true, false, not, ◌&&◌, ◌||◌, Some, Result, Ok, Err, List, [], ◌∷◌, length, map, IsTrue, is_ok, nat_eq, nat_lt, cond, IsPermutation}
use Rattle.std.proofs.Common.{sym, ap, ◌∙◌, subst, true≢false, arith, inl, inr, refl, get_or}
use Rattle.std.specs.Ordering.{eq_by_cmp, is_eq, nat_cmp}
use Rattle.std.specs.declared.cmp.Ordering.{Ordering}
use Rattle.std.specs.declared.cmp.Ordering.TheVariants.{Less, Equal, Greater}
use Rattle.std.specs.List.{list_any, list_all, AllByRecursion, IsDistinct, IsAllAdjacentAnswer}
use Rattle.std.specs.List.Sorted.{IsNonDecreasing, IsStrictlyIncreasing, IsSorted, IsBinarySearchResult}
use Rattle.std.specs.Cmp.{both_ways, tied_itself}
use Rattle.std.specs.FinMap.{nat_cmp-IsAntisymmetric}
use Rattle.std.proofs.lemmas.Cmp.{nat_cmp_total}
use Rattle.std.proofs.lemmas.Bool.{eqb-true, eq-eqb, ltb-true, lt-ltb, cases_lt}
use Rattle.std.proofs.lemmas.List.Folds.{list_any_at}
use Rattle.std.proofs.lemmas.List.Sorted.{searched, list_any-IsPermutation, IsPermutation-sym, IsNonDecreasingBy-from_sort}
use Rattle.std.proofs.lemmas.Map.Keys.{IsDistinct-head, IsDistinct-tail, IsDistinct-IsPermutation, IsDistinct-from_sorted, sorted_from_strictly_increasing, IsStrictlyIncreasing-from_distinct}
use Rattle.paths.specs.Order.{name_cmp}
use Rattle.paths.specs.Fronts.{is_front}
use Rattle.paths.proofs.FrontLaws.{name_same, both_first, both_second, both_hold}
use Rattle.trees.specs.TreeMap.{is_file}
use Rattle.trees.specs.Row.{Row}
use Rattle.entries.specs.Listing.{is_in_way, clash, are_apart}
use Rattle.entries.specs.PrivateFingerprint.{after_name, after_names, fingerprint, root_fingerprint, file_fingerprints, is_clear_from, is_clear}
use Rattle.entries.proofs.ApartFacts.{clash-how}

not-true : (b : Bool) → not b ≡ true → b ≡ false
not-true true h = absurd (true≢false (sym h))
not-true false h = refl

-- a number that stands at no place isn't among the numbers
absent : (number : ℕ) (numbers : List ℕ) → ((k : ℕ) → k < length numbers → get_or numbers k 0 ≡ number → ⊥) → list_any (nat_eq number) numbers ≡ false
absent number [] h = refl
absent number (other ∷ numbers) h = by (absent number numbers (λ k less same. h (suc k) (omega arith) same)) (nat_eq number other) refl
  where
    by : list_any (nat_eq number) numbers ≡ false → (b : Bool) → nat_eq number other ≡ b → (nat_eq number other || list_any (nat_eq number) numbers) ≡ false
    by more true e = absurd (h 0 (omega arith) (sym (eqb-true number other e)))
    by more false e = ap (λ b. b || list_any (nat_eq number) numbers) e ∙ more

-- a search among sorted numbers finds whether a number is among them
pub search-tells : (numbers : List ℕ) (number : ℕ) (found : Result ℕ ℕ) → IsNonDecreasing numbers → IsBinarySearchResult (λ other. nat_cmp other number) numbers found → is_ok found ≡ list_any (nat_eq number) numbers
search-tells numbers number (Ok i) up is =
    let h = searched numbers number (Ok i) is (λ i j le less. up i j 0 le less) in
    sym (list_any_at (nat_eq number) numbers i 0 h.0 (eq-eqb number (get_or numbers i 0) (sym h.1)))
search-tells numbers number (Err i) up is =
    let h = searched numbers number (Err i) is (λ i j le less. up i j 0 le less) in
    sym (absent number numbers (λ k less same. elim (cases_lt k i) [
      | inl before ↦ absurd (let low = h.1 k before in omega arith)
      | inr behind ↦ absurd (let high = h.2 k behind less in omega arith)
    ]))

-- neighbours tell whether numbers rise
pub rises-is : (numbers : List ℕ) (rises : Bool) → IsAllAdjacentAnswer (λ number next answer. answer ≡ nat_lt number next) numbers rises → IsTrue rises ↔ IsStrictlyIncreasing numbers
rises-is numbers true h = (λ t k less. ltb-true _ _ (sym (h k 0 less)), λ up. refl)
rises-is numbers false h = (λ t. absurd (true≢false (sym t)), λ up. absurd (true≢false (sym (lt-ltb _ _ (up h.0 h.1)) ∙ sym (h.2 0))))

eqb-flip : (m n : ℕ) → nat_eq m n ≡ nat_eq n m
eqb-flip m n = both_ways (nat_eq m n) (nat_eq n m) (λ h. eq-eqb n m (sym (eqb-true m n h))) (λ h. eq-eqb m n (sym (eqb-true n m h)))

equal : (r : Ordering) → is_eq r ≡ true → r ≡ Equal
equal Less e = absurd (true≢false (sym e))
equal Equal e = refl
equal Greater e = absurd (true≢false (sym e))

tie-is : (m n : ℕ) → eq_by_cmp nat_cmp m n ≡ nat_eq m n
tie-is m n =
    both_ways (eq_by_cmp nat_cmp m n) (nat_eq m n) (λ h. eq-eqb m n (nat_cmp-IsAntisymmetric m n (equal (nat_cmp m n) h)))
    (λ h. subst (λ (k : ℕ). eq_by_cmp nat_cmp m k ≡ true) (eqb-true m n h) (ap is_eq (tied_itself nat_cmp_total m)))

-- numbers differ where they rise once they are sorted
pub sorted-tell : (xs ys : List ℕ) (rises : Bool) → IsPermutation xs ys → IsSorted nat_cmp ys → (IsTrue rises ↔ IsStrictlyIncreasing ys) → IsTrue rises ↔ IsDistinct nat_eq xs
sorted-tell xs ys rises moves up is = (
  (λ t. IsDistinct-IsPermutation nat_eq eqb-flip ys xs (IsPermutation-sym xs ys moves) (subst (λ (e : ℕ → ℕ → Bool). IsDistinct e ys) (λ i m n. tie-is m n i) (IsDistinct-from_sorted nat_cmp ys (sorted_from_strictly_increasing ys (is.0 t))))),
  (λ distinct. is.1 (IsStrictlyIncreasing-from_distinct ys (IsNonDecreasingBy-from_sort (λ n. n) ys up) (IsDistinct-IsPermutation nat_eq eqb-flip xs ys moves distinct))),
)

-- the order of the numbers doesn't matter
clear-from-moved : (xs ys : List ℕ) → IsPermutation xs ys → (number : ℕ) (names : List (List ℕ)) → is_clear_from ys number names ≡ is_clear_from xs number names
clear-from-moved xs ys moves number [] = refl
clear-from-moved xs ys moves number (name ∷ names) =
    λ i. not (list_any-IsPermutation (nat_eq number) ys xs (IsPermutation-sym xs ys moves) i) && clear-from-moved xs ys moves (after_name number name) names i

pub clear-moved : (xs ys : List ℕ) → IsPermutation xs ys → (rows : List Row) → list_all (λ (row : Row). is_clear ys row.0) rows ≡ list_all (λ (row : Row). is_clear xs row.0) rows
clear-moved xs ys moves rows = λ i. list_all (λ (row : Row). clear-from-moved xs ys moves root_fingerprint row.0 i) rows

-- where a path's way is clear, no number is the fingerprint of what it lies below
front-clear : (numbers : List ℕ) (number : ℕ) (front path : List (List ℕ)) → is_clear_from numbers number path ≡ true → is_front front path ≡ true → list_any (nat_eq (after_names number front)) numbers ≡ false
front-clear numbers number [] [] clear way = absurd (true≢false (sym way))
front-clear numbers number [] (name ∷ names) clear way = not-true (list_any (nat_eq number) numbers) (both_first (not (list_any (nat_eq number) numbers)) (is_clear_from numbers (after_name number name) names) clear)
front-clear numbers number (first ∷ rest) [] clear way = absurd (true≢false (sym way))
front-clear numbers number (first ∷ rest) (name ∷ names) clear way =
    let same : first ≡ name = name_same first name (both_first (eq_by_cmp name_cmp first name) (is_front rest names) way) in
    subst (λ (n : List ℕ). list_any (nat_eq (after_names (after_name number n) rest)) numbers ≡ false) (sym same)
    (front-clear numbers (after_name number name) rest names (both_second (not (list_any (nat_eq number) numbers)) (is_clear_from numbers (after_name number name) names) clear) (both_second (eq_by_cmp name_cmp first name) (is_front rest names) way))

-- each file among the rows has its fingerprint among the numbers
abbrev HasFiles : List ℕ → List Row → Type 0
HasFiles numbers [] = Unit {0}
HasFiles numbers (row ∷ rows) = (is_file (Some row.1) ≡ true → list_any (nat_eq (fingerprint row.0)) numbers ≡ true) × HasFiles numbers rows

or-second : (a b : Bool) → b ≡ true → (a || b) ≡ true
or-second true b h = refl
or-second false b h = h

files-more : (number : ℕ) (numbers : List ℕ) (rows : List Row) → HasFiles numbers rows → HasFiles (number ∷ numbers) rows
files-more number numbers [] has = tt
files-more number numbers (row ∷ rows) has =
    ((λ file. or-second (nat_eq (fingerprint row.0) number) (list_any (nat_eq (fingerprint row.0)) numbers) (has.0 file)), files-more number numbers rows has.1)

has-files : (rows : List Row) → HasFiles (file_fingerprints rows) rows
has-files [] = tt
has-files (row ∷ rows) = by (has-files rows) (is_file (Some row.1)) refl
  where
    by : HasFiles (file_fingerprints rows) rows → (b : Bool) → is_file (Some row.1) ≡ b → HasFiles (cond b (fingerprint row.0 ∷ file_fingerprints rows) (file_fingerprints rows)) (row ∷ rows)
    by has true e =
        ((λ file. ap (λ b. b || list_any (nat_eq (fingerprint row.0)) (file_fingerprints rows)) (eq-eqb (fingerprint row.0) (fingerprint row.0) refl)), files-more (fingerprint row.0) (file_fingerprints rows) rows has)
    by has false e = ((λ file. absurd (true≢false (sym file ∙ e))), has)

module _ (numbers : List ℕ) where
  abbrev Clear : Row → Type 0
  Clear row = is_clear numbers row.0 ≡ true

  abbrev IsKnown : Row → Type 0
  IsKnown row = is_file (Some row.1) ≡ true → list_any (nat_eq (fingerprint row.0)) numbers ≡ true

  -- no file whose fingerprint is among the numbers is in the way of a row whose way is clear
  not-in-way : (row other : Row) → IsKnown row → Clear other → is_in_way row other ≡ true → ⊥
  not-in-way row other known clear way =
      true≢false (sym (known (both_first (is_file (Some row.1)) (is_front row.0 other.0) way)) ∙ front-clear numbers root_fingerprint row.0 other.0 clear (both_second (is_file (Some row.1)) (is_front row.0 other.0) way))

  no-clash : (row other : Row) → IsKnown row → IsKnown other → Clear row → Clear other → nat_eq (fingerprint row.0) (fingerprint other.0) ≡ false → clash row other ≡ false
  no-clash row other m n c d differ = by (clash row other) refl
    where
      by : (b : Bool) → clash row other ≡ b → b ≡ false
      by true e = absurd (elim (clash-how row other e) [
        | inl same ↦ true≢false (sym (eq-eqb (fingerprint row.0) (fingerprint other.0) (ap fingerprint same)) ∙ differ)
        | inr ways ↦ elim ways [ inl way ↦ not-in-way row other m d way | inr way ↦ not-in-way other row n c way ]
      ])
      by false e = refl

  none-clash : (row : Row) (rows : List Row) → IsKnown row → Clear row → HasFiles numbers rows → list_all (λ (other : Row). is_clear numbers other.0) rows ≡ true → AllByRecursion (λ (number : ℕ). nat_eq (fingerprint row.0) number ≡ false) (map (λ (other : Row). fingerprint other.0) rows) → list_any (clash row) rows ≡ false
  none-clash row [] m c has clear differ = refl
  none-clash row (other ∷ rows) m c has clear differ =
      let d = both_first (is_clear numbers other.0) (list_all (λ (other : Row). is_clear numbers other.0) rows) clear in
      let more = both_second (is_clear numbers other.0) (list_all (λ (other : Row). is_clear numbers other.0) rows) clear in
      ap (λ b. b || list_any (clash row) rows) (no-clash row other m has.0 c d differ.0) ∙ none-clash row rows m c has.1 more differ.1

  all-apart : (rows : List Row) → HasFiles numbers rows → list_all (λ (row : Row). is_clear numbers row.0) rows ≡ true → IsDistinct nat_eq (map (λ (row : Row). fingerprint row.0) rows) → are_apart rows ≡ true
  all-apart [] has clear distinct = refl
  all-apart (row ∷ rows) has clear distinct =
      let c = both_first (is_clear numbers row.0) (list_all (λ (row : Row). is_clear numbers row.0) rows) clear in
      let more = both_second (is_clear numbers row.0) (list_all (λ (row : Row). is_clear numbers row.0) rows) clear in
      let own = map (λ (row : Row). fingerprint row.0) rows in
      both_hold (not (list_any (clash row) rows)) (are_apart rows)
      (ap (λ b. not b) (none-clash row rows has.0 c has.1 more (IsDistinct-head nat_eq (fingerprint row.0) own distinct)))
      (all-apart rows has.1 more (IsDistinct-tail nat_eq (fingerprint row.0) own distinct))

-- rows are apart where their fingerprints differ and their ways are clear of files' fingerprints
pub told-apart : (rows : List Row) → IsDistinct nat_eq (map (λ (row : Row). fingerprint row.0) rows) → list_all (λ (row : Row). is_clear (file_fingerprints rows) row.0) rows ≡ true → are_apart rows ≡ true
told-apart rows distinct clear = all-apart (file_fingerprints rows) rows (has-files rows) clear distinct
