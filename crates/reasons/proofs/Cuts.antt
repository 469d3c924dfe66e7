-- How the lines of bytes are cut off one after another.
use Rattle.std.proofs.Common.{◌≡◌, ◌∙◌, ◌+◌, ◌-◌, ◌<◌, ◌==◌, ℕ, Bool, false, List, [], ◌∷◌, ◌++◌, take, drop, length, get_or, sym, ap, refl, arith, suc, zero, cond}
use Rattle.std.specs.List.{All}
use Rattle.std.proofs.lemmas.Bool.{false_from_ne_true, eqb-true}
use Rattle.std.specs.List.{slice_split}
use Rattle.std.specs.Str.Lines.{lines, lines_of_parts, strip_carriage_return}
use Rattle.std.proofs.lemmas.Grind.{common_steps}
use Rattle.std.proofs.lemmas.List.{take-append-drop, length-take, get_or-take}
use Rattle.std.proofs.lemmas.List.Splits.{length-slice_split, slice_split_at, slice_split_none}
use Rattle.std.proofs.Math.Seq.{drop-cons}
use Rattle.std.proofs.Math.Dec.{eqb-suc-zero}

abbrev is_lf : ℕ → Bool
is_lf b = b == 10

parts-more : (piece : List ℕ) (parts : List (List ℕ)) → 0 < length parts → lines_of_parts (piece ∷ parts) ≡ strip_carriage_return piece ∷ lines_of_parts parts
parts-more piece [] h = absurd (omega arith)
parts-more piece (next ∷ more) h = refl

some-parts : (bytes : List ℕ) → 0 < length (slice_split is_lf bytes)
some-parts bytes = let e = length-slice_split is_lf bytes in omega arith

none-among : (xs : List ℕ) → ((k : ℕ) → k < length xs → get_or xs k 0 ≡ 10 → ⊥) → All (λ b. is_lf b ≡ false) xs
none-among [] none k d l = absurd (omega arith)
none-among (x ∷ xs) none zero d l = false_from_ne_true (is_lf x) (λ h. none 0 (omega arith) (eqb-true x 10 h))
none-among (x ∷ xs) none (suc k) d l = none-among xs (λ j m. none (suc j) (omega arith)) k d (omega arith)

pub cut-at : (bytes : List ℕ) (at : ℕ) → at < length bytes → get_or bytes at 0 ≡ 10 → ((k : ℕ) → k < at → get_or bytes k 0 ≡ 10 → ⊥) → lines bytes ≡ strip_carriage_return (take at bytes) ∷ lines (drop (suc at) bytes)
cut-at bytes at less is none =
    let whole : bytes ≡ take at bytes ++ 10 ∷ drop (suc at) bytes = sym (take-append-drop at bytes) ∙ ap (λ l. take at bytes ++ l) (drop-cons bytes at 0 less ∙ ap (λ b. b ∷ drop (suc at) bytes) is) in
    let few = length-take at bytes in
    let before : All (λ b. is_lf b ≡ false) (take at bytes) = none-among (take at bytes) (λ k l e. none k (omega arith) (sym (get_or-take at bytes k 0 (omega arith)) ∙ e)) in
    ap (λ bs. lines_of_parts (slice_split is_lf bs)) whole ∙ ap (λ ps. lines_of_parts ps) (slice_split_at is_lf (take at bytes) 10 (drop (suc at) bytes) before refl)
    ∙ parts-more (take at bytes) (slice_split is_lf (drop (suc at) bytes)) (some-parts (drop (suc at) bytes))

last-part : (bytes : List ℕ) → 0 < length bytes → lines_of_parts (bytes ∷ []) ≡ bytes ∷ []
last-part [] some = absurd (omega arith)
last-part (b ∷ bs) some = ap (λ t. cond t [] ((b ∷ bs) ∷ [])) (eqb-suc-zero (length bs))

pub cut-none : (bytes : List ℕ) → 0 < length bytes → ((k : ℕ) → k < length bytes → get_or bytes k 0 ≡ 10 → ⊥) → lines bytes ≡ bytes ∷ []
cut-none bytes some none = ap (λ ps. lines_of_parts ps) (slice_split_none is_lf bytes (none-among bytes none)) ∙ last-part bytes some

-- what stands behind, as code takes it
pub behind-at : (bytes : List ℕ) (at : ℕ) → take (length bytes - (at + 1)) (drop (at + 1) bytes) ≡ drop (suc at) bytes
behind-at bytes at = let e : at + 1 ≡ suc at = omega arith in whole-behind bytes (at + 1) ∙ ap (λ n. drop n bytes) e
  where
    whole-behind : (bytes : List ℕ) (n : ℕ) → take (length bytes - n) (drop n bytes) ≡ drop n bytes
    whole-behind bytes n = grind (arith, common_steps)

pub shorter-at : (bytes : List ℕ) (at : ℕ) → at < length bytes → length (take (length bytes - (at + 1)) (drop (at + 1) bytes)) < length bytes
shorter-at bytes at less = grind (arith, common_steps)
