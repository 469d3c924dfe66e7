-- What follows about the lines behind a vertex.
use Rattle.std.specs.Prelude.{◌≡◌, ◌<◌, ◌≤◌, ℕ, Bool, true, false, List, [], ◌∷◌, ◌++◌, ◌-◌, nat_lt, length, slice_index, slice_index_or, refl}
use Rattle.std.specs.List.{filter}
use Rattle.std.proofs.Common.{arith, ap, sym, subst}
use Rattle.std.proofs.lemmas.Bool.{lt-ltb, le-ltb, ltb-true, ltb-false}
use Rattle.plain.specs.Limits.{most_line_number}
use Rattle.llb.specs.Places.{AscendFrom, AreLines, with_line, with_lines, least_line}

before_none : (line low : ℕ) (lines : List ℕ) → AscendFrom low lines → line ≤ low → filter (λ other. nat_lt other line) lines ≡ []
before_none line low [] ascend le = refl
before_none line low (x ∷ xs) ascend le =
    let at : nat_lt x line ≡ false = le-ltb x line (omega (arith, ascend.0)) in
    let le_x : line ≤ x = omega (arith, ascend.0) in
    rw at (before_none line x xs ascend.1.1 le_x)

after_all : (line low : ℕ) (lines : List ℕ) → AscendFrom low lines → line ≤ low → filter (λ other. nat_lt line other) lines ≡ lines
after_all line low [] ascend le = refl
after_all line low (x ∷ xs) ascend le =
    let at : nat_lt line x ≡ true = lt-ltb line x (omega (arith, ascend.0)) in
    let le_x : line ≤ x = omega (arith, ascend.0) in
    rw at (ap (λ ys. x ∷ ys) (after_all line x xs ascend.1.1 le_x))

by_order : (line low x : ℕ) (xs : List ℕ) → AscendFrom low (x ∷ xs) → low < line → line ≤ most_line_number → (x < line → AscendFrom x (with_line line xs)) → (b c : Bool) → nat_lt x line ≡ b → nat_lt line x ≡ c → AscendFrom low (with_line line (x ∷ xs))
by_order line low x xs ascend lt le deeper true c is_less is_more =
    let not_more : nat_lt line x ≡ false = le-ltb line x (omega (arith, ltb-true x line is_less)) in
    rw (is_less, not_more) (ascend.0, (ascend.1.0, deeper (ltb-true x line is_less)))
by_order line low x xs ascend lt le deeper false true is_less is_more =
    let line_x : line ≤ x = omega (arith, ltb-false x line is_less) in
    rw (is_less, is_more, before_none line x xs ascend.1.1 line_x, after_all line x xs ascend.1.1 line_x) (lt, (le, (ltb-true line x is_more, ascend.1)))
by_order line low x xs ascend lt le deeper false false is_less is_more =
    let same : line ≡ x = omega (arith, ltb-false x line is_less, ltb-false line x is_more) in
    let line_x : line ≤ x = omega arith in
    rw (is_less, is_more, before_none line x xs ascend.1.1 line_x, after_all line x xs ascend.1.1 line_x) (lt, (le, subst (λ n. AscendFrom n xs) (sym same) ascend.1.1))

-- the lines stay in ascending order, each once
pub AscendFrom-with_line : (line low : ℕ) (lines : List ℕ) → AscendFrom low lines → low < line → line ≤ most_line_number → AscendFrom low (with_line line lines)
AscendFrom-with_line line low [] ascend lt le = (lt, (le, tt))
AscendFrom-with_line line low (x ∷ xs) ascend lt le =
    by_order line low x xs ascend lt le (λ h. AscendFrom-with_line line x xs ascend.1.1 h le) _ _ refl refl

with_lines-from : (low : ℕ) (more lines : List ℕ) → AscendFrom low more → AreLines lines → AreLines (with_lines more lines)
with_lines-from low [] lines ascend are = are
with_lines-from low (line ∷ more) lines ascend are =
    with_lines-from line more (with_line line lines) ascend.1.1 (AscendFrom-with_line line 0 lines are (omega (arith, ascend.0)) ascend.1.0)

-- lines with more among them are ascending, each once
pub AreLines-with_lines : (more lines : List ℕ) → AreLines more → AreLines lines → AreLines (with_lines more lines)
AreLines-with_lines more lines ascend are = with_lines-from 0 more lines ascend are

below_last : (low x : ℕ) (xs : List ℕ) → AscendFrom low (x ∷ xs) → low < slice_index_or (x ∷ xs) (length xs) 0
below_last low x [] ascend = ascend.0
below_last low x (y ∷ ys) ascend =
    let further : x < slice_index_or (y ∷ ys) (length ys) 0 = below_last x y ys ascend.1.1 in
    omega (arith, ascend.0)

all_before : (line low x : ℕ) (xs : List ℕ) → AscendFrom low (x ∷ xs) → slice_index_or (x ∷ xs) (length xs) 0 < line → filter (λ other. nat_lt other line) (x ∷ xs) ≡ x ∷ xs
all_before line low x [] ascend lt =
    let at : nat_lt x line ≡ true = lt-ltb x line lt in
    rw at refl
all_before line low x (y ∷ ys) ascend lt =
    let below : x < slice_index_or (y ∷ ys) (length ys) 0 = below_last x y ys ascend.1.1 in
    let at : nat_lt x line ≡ true = lt-ltb x line (omega (arith, lt)) in
    rw at (ap (λ zs. x ∷ zs) (all_before line x y ys ascend.1.1 lt))

none_after : (line low x : ℕ) (xs : List ℕ) → AscendFrom low (x ∷ xs) → slice_index_or (x ∷ xs) (length xs) 0 < line → filter (λ other. nat_lt line other) (x ∷ xs) ≡ []
none_after line low x [] ascend lt =
    let at : nat_lt line x ≡ false = le-ltb line x (omega (arith, lt)) in
    rw at refl
none_after line low x (y ∷ ys) ascend lt =
    let below : x < slice_index_or (y ∷ ys) (length ys) 0 = below_last x y ys ascend.1.1 in
    let at : nat_lt line x ≡ false = le-ltb line x (omega (arith, lt)) in
    rw at (none_after line x y ys ascend.1.1 lt)

-- a line after the last of ascending lines comes after them all
pub with_line-after : (line : ℕ) (lines : List ℕ) → 0 < length lines → AreLines lines → slice_index_or lines (length lines - 1) 0 < line → with_line line lines ≡ lines ++ line ∷ []
with_line-after line [] long are lt = absurd (omega arith)
with_line-after line (x ∷ xs) long are lt =
    let front : length (x ∷ xs) - 1 ≡ length xs = omega arith in
    let last : slice_index_or (x ∷ xs) (length xs) 0 < line = subst (λ at. slice_index_or (x ∷ xs) at 0 < line) front lt in
    rw (all_before line 0 x xs are last, none_after line 0 x xs are last) refl

least_line-first : (low line : ℕ) (lines : List ℕ) → AscendFrom low (line ∷ lines) → least_line (line ∷ lines) ≡ line
least_line-first low line [] ascend = refl
least_line-first low line (other ∷ lines) ascend =
    let rest : least_line (other ∷ lines) ≡ other = least_line-first line other lines ascend.1.1 in
    let before : line < other = ascend.1.1.0 in
    rw rest (omega arith)

-- the first of ascending lines is the least
pub least_is_first : (lines : List ℕ) → 0 < length lines → AreLines lines → slice_index lines 0 ≡ least_line lines
least_is_first [] long are = absurd (omega arith)
least_is_first (line ∷ lines) long are = sym (least_line-first 0 line lines are)
