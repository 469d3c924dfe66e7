-- A list of a tree's entries is what a context is made of.
use Rattle.std.specs.Prelude.{◌≡◌, ℕ, zero, suc, true, Some, List, [], ◌∷◌, slice_get}
use Rattle.std.proofs.Common.{sym, ap, ◌∙◌, subst, true≢false, refl}
use Rattle.std.proofs.lemmas.Option.{same_Some, none-some}
use Rattle.paths.specs.Fronts.{is_front}
use Rattle.paths.proofs.FrontLaws.{both_hold, front-irrefl}
use Rattle.trees.specs.TreeMap.{is_file, is_directory}
use Rattle.trees.specs.declared.entry.Entry.{Entry}
use Rattle.trees.specs.declared.entry.Entry.TheVariants.{Directory, File}
use Rattle.contexts.specs.Context.{IsListing}
use Rattle.trees.specs.Row.{Row}
use Rattle.entries.specs.Listing.{clash, is_root, is_root_file, is_listing}
use Rattle.entries.proofs.ApartFacts.{clash-same, clash-way, clash-flip}
use Rattle.entries.proofs.RowFacts.{no-clash, none-of, listing-tail, listing-root}

-- rows that clash are one row
one-row : (rows : List Row) → is_listing rows ≡ true → (m n : ℕ) (row other : Row) → slice_get rows m ≡ Some row → slice_get rows n ≡ Some other → clash row other ≡ true → m ≡ n
one-row [] h m n row other e f is = absurd (none-some row e)
one-row (first ∷ rows) h zero zero row other e f is = refl
one-row (first ∷ rows) h zero (suc n) row other e f is = absurd (no-clash first rows other h (n, f) (subst (λ (r : Row). clash r other ≡ true) (sym (same_Some first row e)) is))
one-row (first ∷ rows) h (suc m) zero row other e f is =
    absurd (no-clash first rows row h (m, e) (subst (λ (r : Row). clash r row ≡ true) (sym (same_Some first other f)) (clash-flip row other is)))
one-row (first ∷ rows) h (suc m) (suc n) row other e f is = ap (λ (k : ℕ). suc k) (one-row rows (listing-tail first rows h) m n row other e f is)

not-file : (entry : Entry) → (is_file (Some entry) ≡ true → ⊥) → is_directory (Some entry) ≡ true
not-file (Directory meta) off = refl
not-file (File meta content) off = absurd (off refl)

pub listing : (rows : List Row) → is_listing rows ≡ true → IsListing rows
listing rows h = record {
  once = λ m n row other e f same. one-row rows h m n row other e f (clash-same row other same);
  folders = λ row other has had way. not-file row.1 (λ file.
      let same : has.0 ≡ had.0 = one-row rows h has.0 had.0 row other has.1 had.1 (clash-way row other (both_hold (is_file (Some row.1)) (is_front row.0 other.0) file way)) in
      let is : row ≡ other = same_Some row other (sym has.1 ∙ ap (λ n. slice_get rows n) same ∙ had.1) in
      true≢false (sym way ∙ ap (λ (r : Row). is_front row.0 r.0) (sym is) ∙ front-irrefl row.0));
  root = λ row has root. not-file row.1 (λ file.
      true≢false (sym (both_hold (is_file (Some row.1)) (is_root row.0) file (ap (λ p. is_root p) root)) ∙ none-of is_root_file rows row (listing-root rows h) has));
}
