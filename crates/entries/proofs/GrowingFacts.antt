-- Rows that follow one another are a list, and a tree is built of them run by run.
use Rattle.std.specs.Prelude.{◌≡◌, Bool, true, false, not, ◌&&◌, ◌||◌, Some, None, List, [], ◌∷◌, ◌++◌, ℕ, cond}
use Rattle.std.proofs.Common.{sym, ap, ◌∙◌, subst, true≢false, refl, append_assoc}
use Rattle.std.specs.List.{list_any}
use Rattle.std.specs.Ordering.{is_lt}
use Rattle.std.specs.Option.{option_and_then}
use Rattle.json.specs.Token.{Token}
use Rattle.borrowed.specs.Pulled.{Pulls}
use Rattle.paths.specs.Order.{path_cmp}
use Rattle.paths.proofs.FrontLaws.{both_first, both_second, both_hold}
use Rattle.trees.specs.TreeMap.{is_file}
use Rattle.trees.specs.Row.{Row}
use Rattle.trees.specs.Builder.{Built, comes_next, with_row, follow_from, IsBuiltOf}
use Rattle.trees.proofs.BuiltLaws.{built-more}
use Rattle.entries.specs.Reading.{rows_of}
use Rattle.entries.specs.Listing.{is_root_file, are_apart, is_listing, listing_in}
use Rattle.entries.specs.PrivateOrder.{follows, in_order_after}
use Rattle.entries.proofs.ApartFacts.{order-apart}

-- no path comes before the root's
root-first : (path : List (List ℕ)) → is_lt (path_cmp path []) ≡ false
root-first [] = refl
root-first (name ∷ names) = refl

and-false : (b : Bool) → (b && false) ≡ false
and-false true = refl
and-false false = refl

not-and-true : (b : Bool) → not b ≡ true → (b && true) ≡ false
not-and-true true h = absurd (true≢false (sym h))
not-and-true false h = refl

-- a row that comes first isn't a file that is to be the root
first-no-root : (row : Row) → comes_next None row ≡ true → is_root_file row ≡ false
first-no-root ([], entry) h = not-and-true (is_file (Some entry)) h
first-no-root (name ∷ names, entry) h = and-false (is_file (Some entry))

-- nor is one that follows another
next-no-root : (last row : Row) → comes_next (Some last) row ≡ true → is_root_file row ≡ false
next-no-root last ([], entry) h = absurd (true≢false (sym (both_first (is_lt (path_cmp last.0 [])) _ h) ∙ root-first last.0))
next-no-root last (name ∷ names, entry) h = and-false (is_file (Some entry))

none-more : (row : Row) (rows : List Row) → is_root_file row ≡ false → list_any is_root_file rows ≡ false → list_any is_root_file (row ∷ rows) ≡ false
none-more row rows h rest = ap (λ b. b || list_any is_root_file rows) h ∙ rest

no-root : (last : Row) (rows : List Row) → follow_from (Some last) rows ≡ true → list_any is_root_file rows ≡ false
no-root last [] h = refl
no-root last (row ∷ rows) h =
    none-more row rows (next-no-root last row (both_first (comes_next (Some last) row) _ h)) (no-root row rows (both_second (comes_next (Some last) row) _ h))

in-order : (last : Row) (rows : List Row) → follow_from (Some last) rows ≡ true → in_order_after (Some last) rows ≡ true
in-order last [] h = refl
in-order last (row ∷ rows) h =
    both_hold (follows last row) (in_order_after (Some row) rows) (both_first (comes_next (Some last) row) _ h) (in-order row rows (both_second (comes_next (Some last) row) _ h))

-- rows that follow one another are a list
pub follow-listing : (rows : List Row) → follow_from None rows ≡ true → is_listing rows ≡ true
unfolding is_listing
follow-listing [] h = refl
follow-listing (row ∷ rows) h =
    let rest = both_second (comes_next None row) _ h in
    both_hold (not (list_any is_root_file (row ∷ rows))) (are_apart (row ∷ rows))
    (ap (λ b. not b) (none-more row rows (first-no-root row (both_first (comes_next None row) _ h)) (no-root row rows rest)))
    (order-apart (row ∷ rows) (in-order row rows rest))

-- a list that is read as rows that are a list is read as the list
pub pulls-listing : (depth : ℕ) (first left : List Token) (rows : List Row) → Pulls depth rows_of first left rows → is_listing rows ≡ true → Pulls depth listing_in first left rows
unfolding listing_in
pulls-listing depth first left rows pulled listing =
    (pulled.0, pulled.1, ap (option_and_then (λ found. cond (is_listing found) (Some found) None)) pulled.2 ∙ ap (λ b. cond b (Some rows) None) listing)

-- a row more is built, if it may come next
pub row-built : (rows seen : List Row) (row : Row) (old new : Built) (added : Bool) → IsBuiltOf (rows ++ seen) old → added ≡ comes_next old.last row → new ≡ cond added (with_row old row) old → added ≡ true
    → IsBuiltOf (rows ++ (seen ++ row ∷ [])) new
row-built rows seen row old new true built answer is going =
    subst (λ (l : List Row). IsBuiltOf l new) (append_assoc rows seen (row ∷ []))
    (subst (λ (b : Built). IsBuiltOf ((rows ++ seen) ++ row ∷ []) b) (sym is) (built-more (rows ++ seen) row old built (sym answer)))
row-built rows seen row old new false built answer is going = absurd (true≢false (sym going))
