-- The lines up to one of a number, and those before the last one that begins a stage.
use Rattle.std.proofs.Common.{◌≡◌, ◌<◌, ◌≤◌, ◌-◌, ◌∙◌, ◌||◌, ℕ, zero, suc, Bool, true, false, Bor, List, [], ◌∷◌, ap, arith, drop, get_or, length, map, refl, sym, take}
use Rattle.std.proofs.lemmas.List.{drop-map, drop_all, length-drop, length-map, take-map, take_all}
use Rattle.std.proofs.lemmas.List.Folds.{list_any_at}
use Rattle.std.specs.List.{list_any}
use Rattle.meant.specs.Begun.{begins_stage, before_last}

-- the lines up to a number: those that are there
pub first_lines : (number : ℕ) (lines : List (Bor (List ℕ))) → map (λ (line : Bor (List ℕ)). line.now) (take number lines) ≡ take number (map (λ (line : Bor (List ℕ)). line.now) lines)
first_lines number lines = sym (take-map (λ (line : Bor (List ℕ)). line.now) number lines)

-- and all of them if there are no more
pub all_lines : (number : ℕ) (lines : List (Bor (List ℕ))) → length lines ≤ number → map (λ (line : Bor (List ℕ)). line.now) lines ≡ take number (map (λ (line : Bor (List ℕ)). line.now) lines)
all_lines number lines short =
    let count : length (map (λ (line : Bor (List ℕ)). line.now) lines) ≡ length lines = length-map lines (λ (line : Bor (List ℕ)). line.now) in
    sym (take_all number (map (λ (line : Bor (List ℕ)). line.now) lines) (omega arith))

-- the lines after so many: those that are there
pub later_lines : (count : ℕ) (lines : List (Bor (List ℕ))) → map (λ (line : Bor (List ℕ)). line.now) (drop count lines) ≡ drop count (map (λ (line : Bor (List ℕ)). line.now) lines)
later_lines count lines = sym (drop-map (λ (line : Bor (List ℕ)). line.now) count lines)

-- the same, as they are cut off
pub lines_cut : (above : ℕ) (lines : List (Bor (List ℕ)))
    → map (λ (line : Bor (List ℕ)). line.now) (take (length lines - above) (drop above lines)) ≡ drop above (map (λ (line : Bor (List ℕ)). line.now) lines)
lines_cut above lines =
    let count : length (drop above lines) ≡ length lines - above = length-drop above lines in
    ap (map (λ (line : Bor (List ℕ)). line.now)) (take_all (length lines - above) (drop above lines) (omega arith)) ∙ later_lines above lines

-- and none if there are no more
pub no_lines : (count : ℕ) (lines : List (Bor (List ℕ))) → length lines ≤ count → [] ≡ drop count (map (λ (line : Bor (List ℕ)). line.now) lines)
no_lines count lines short =
    let same : length (map (λ (line : Bor (List ℕ)). line.now) lines) ≡ length lines = length-map lines (λ (line : Bor (List ℕ)). line.now) in
    sym (drop_all count (map (λ (line : Bor (List ℕ)). line.now) lines) (omega arith))

-- the line at a place is the last one that begins a stage
pub last_begins : (place : ℕ) (lines : List (List ℕ)) → place < length lines → begins_stage (get_or lines place []) ≡ true → list_any begins_stage (drop (suc place) lines) ≡ false
    → take place lines ≡ before_last lines
last_begins zero [] within begins none = elim within [ ]
last_begins (suc place) [] within begins none = elim within [ ]
last_begins zero (line ∷ lines) within begins none = rw none refl
last_begins (suc place) (line ∷ lines) within begins none =
    let there = list_any_at begins_stage lines place [] (omega arith) begins in
    rw there (ap (λ (rest : List (List ℕ)). line ∷ rest) (last_begins place lines (omega arith) begins none))

-- none of the lines from a place on begins a stage
pub none_begins : (place : ℕ) (lines : List (List ℕ)) → place < length lines → begins_stage (get_or lines place []) ≡ false → list_any begins_stage (drop (suc place) lines) ≡ false
    → list_any begins_stage (drop place lines) ≡ false
none_begins zero [] within begins none = elim within [ ]
none_begins (suc place) [] within begins none = elim within [ ]
none_begins zero (line ∷ lines) within begins none = rw begins none
none_begins (suc place) (line ∷ lines) within begins none = none_begins place lines (omega arith) begins none

later : (first rest : Bool) → (first || rest) ≡ false → rest ≡ false
later false rest none = none
later true false none = refl
later true true none = none

-- so no line stands before one that does
pub none_before : (lines : List (List ℕ)) → list_any begins_stage lines ≡ false → [] ≡ before_last lines
none_before [] none = refl
none_before (line ∷ lines) none = rw (later (begins_stage line) (list_any begins_stage lines) none) refl
