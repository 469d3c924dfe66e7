-- The numbers and the texts of logical lines, by the structure of a file: numbers ascend, and texts are trimmed.
use Rattle.std.proofs.Common.{◌≡◌, ◌≢◌, ◌+◌, ◌<◌, ◌≤◌, ◌==◌, ℕ, zero, suc, Bool, true, false, cond, Option, Some, None, List, [], ◌∷◌, ◌++◌, length, drop, map, refl, ap, ◌∙◌, subst, arith}
use Rattle.std.specs.Prelude.{slice_get, bytes_eq, take}
use Rattle.std.specs.List.{concat, slice_split, join_with_byte}
use Rattle.std.specs.Str.Lines.{lines, lines_of_parts}
use Rattle.std.proofs.lemmas.List.{length-append, length-drop}
use Rattle.std.proofs.lemmas.List.Splits.{join_with_byte-slice_split}
use Rattle.std.proofs.lemmas.Bool.Decides.{nat_tests}
use Rattle.plain.specs.Limits.{most_dockerfile_bytes, most_line_number}
use Rattle.plain.specs.declared.refusal.Refusal.{Refusal}
use Rattle.ascii.specs.Blanks.{is_blank, after_blanks, unless_trailing, before_blanks, trimmed}
use Rattle.lines.specs.Escape.{byte_of}
use Rattle.lines.specs.File.{escape_below, BeginsKept, part_of, joined_text, line_of, AreBlocks, none, dropped, logical, open_ended, IsFile}
use Rattle.lines.specs.declared.escape.Escape as character
use Rattle.lines.specs.declared.escape.Escape.TheVariants.{Backslash}
use Rattle.lines.specs.Text.{without_byte_order_mark, text_lines, AreLines}
use Rattle.lines.specs.declared.line.Line.{Line}
use Rattle.lines.specs.declared.line.Heredoc.{Heredoc}

-- trimming twice is trimming once

lone_before : (c : ℕ) (b : Bool) → is_blank c ≡ b → before_blanks (cond b [] (c ∷ [])) ≡ cond b [] (c ∷ [])
lone_before c true e = refl
lone_before c false e = rw e refl

kept_before : (c : ℕ) (text : List ℕ) → before_blanks text ≡ text → before_blanks (unless_trailing c text) ≡ unless_trailing c text
kept_before c [] h = lone_before c (is_blank c) refl
kept_before c (d ∷ ds) h = ap (unless_trailing c) h

before_twice : (text : List ℕ) → before_blanks (before_blanks text) ≡ before_blanks text
before_twice [] = refl
before_twice (c ∷ cs) = kept_before c (before_blanks cs) (before_twice cs)

kept_after : (c : ℕ) (text : List ℕ) → is_blank c ≡ false → after_blanks (unless_trailing c text) ≡ unless_trailing c text
kept_after c [] e = rw (e, e) refl
kept_after c (d ∷ ds) e = rw e refl

after_before_by : (c : ℕ) (cs : List ℕ) (b : Bool) → is_blank c ≡ b → after_blanks (before_blanks (after_blanks cs)) ≡ before_blanks (after_blanks cs)
    → after_blanks (before_blanks (cond b (after_blanks cs) (c ∷ cs))) ≡ before_blanks (cond b (after_blanks cs) (c ∷ cs))
after_before_by c cs true e h = h
after_before_by c cs false e h = kept_after c (before_blanks cs) e

after_before : (text : List ℕ) → after_blanks (before_blanks (after_blanks text)) ≡ before_blanks (after_blanks text)
after_before [] = refl
after_before (c ∷ cs) = after_before_by c cs (is_blank c) refl (after_before cs)

trimmed_twice : (text : List ℕ) → trimmed (trimmed text) ≡ trimmed text
trimmed_twice text = ap before_blanks (after_before text) ∙ before_twice (after_blanks text)

-- lines whose numbers ascend from above low up to high, with texts that are trimmed and not empty
abbrev pub AreNumbered : ℕ → List Line → ℕ → Type 0
AreNumbered low [] high = low ≤ high
AreNumbered low (line ∷ lines) high = (low < line.number) × (line.text ≢ []) × (trimmed line.text ≡ line.text) × AreNumbered line.number lines high

numbered_up : (low : ℕ) (lines : List Line) (high higher : ℕ) → high ≤ higher → AreNumbered low lines high → AreNumbered low lines higher
numbered_up low [] high higher le h = omega arith
numbered_up low (line ∷ lines) high higher le h = (h.0, h.1, h.2, numbered_up line.number lines high higher le h.3)

numbered_down : (low lower : ℕ) (lines : List Line) (high : ℕ) → lower ≤ low → AreNumbered low lines high → AreNumbered lower lines high
numbered_down low lower [] high le h = omega (arith, h)
numbered_down low lower (line ∷ lines) high le h = (omega (arith, h.0), h.1, h.2, h.3)

-- the logical lines of blocks

some_text : (c : ℕ) (cs : List ℕ) → (c ∷ cs) ≢ []
some_text c cs e = cc

line_numbered : (escape : character.Escape) (above low : ℕ) (text : List ℕ) (heredocs : List Heredoc) (found : List Line) (high : ℕ) → trimmed text ≡ text → above + 1 ≤ low
    → AreNumbered low found high → AreNumbered above (line_of (above + 1) escape text heredocs ++ found) high
line_numbered escape above low [] heredocs found high is le h = numbered_down low above found high (omega arith) h
line_numbered escape above low (c ∷ cs) heredocs found high is le h = (omega arith, some_text c cs, is, numbered_down low (above + 1) found high le h)

kept_some : (own : List (List ℕ)) → BeginsKept own → 1 ≤ length own
kept_some [] h = absurd h
kept_some (line ∷ lines) h = omega arith

blocks_numbered : (escape : character.Escape) (above : ℕ) (lines : List (List ℕ)) (found : List Line) (unclosed : Option ℕ) → AreBlocks escape above lines found unclosed → AreNumbered above found (above + length lines)
blocks_numbered escape _ _ _ _ (none above) = omega arith
blocks_numbered escape _ _ _ _ (dropped above line lines found unclosed skipped more) =
    numbered_up above found ((above + 1) + length lines) (above + length (line ∷ lines)) (omega arith)
    (numbered_down (above + 1) above found ((above + 1) + length lines) (omega arith) (blocks_numbered escape (above + 1) lines found unclosed more))
blocks_numbered escape _ _ _ _ (logical above lines own bodies rest heredocs found unclosed is kept joined are more) =
    let parts = concat (map (part_of (byte_of escape)) own) in
    let low = above + length (own ++ bodies) in
    let size : length lines ≡ length own + (length bodies + length rest) = ap length is ∙ length-append own (bodies ++ rest) ∙ ap (λ n. length own + n) (length-append bodies rest) in
    let front : length (own ++ bodies) ≡ length own + length bodies = length-append own bodies in
    let some = kept_some own kept in
    line_numbered escape above low (joined_text (byte_of escape) own) heredocs found (above + length lines) (trimmed_twice parts) (omega arith)
    (numbered_up low found (low + length rest) (above + length lines) (omega arith) (blocks_numbered escape low rest found unclosed more))
blocks_numbered escape _ _ _ _ (open_ended above lines own rest is kept joined unclosed) = omega arith

-- a text has no more lines than bytes

last_few : (text : List ℕ) (b : Bool) → (length text == 0) ≡ b → length (cond b [] (text ∷ [])) ≤ length text
last_few text true e = omega arith
last_few text false e = grind (arith, nat_tests)

parts_few : (parts : List (List ℕ)) → length (lines_of_parts parts) ≤ length (join_with_byte 10 parts)
parts_few [] = omega arith
parts_few (text ∷ []) = last_few text (length text == 0) refl
parts_few (text ∷ next ∷ more) =
    omega (arith, parts_few (next ∷ more), length-append text (10 ∷ join_with_byte 10 (next ∷ more)))

lines_few : (text : List ℕ) → length (lines text) ≤ length text
lines_few text =
    subst (λ (whole : List ℕ). length (lines text) ≤ length whole) (join_with_byte-slice_split 10 text) (parts_few (slice_split (λ b. b == 10) text))

mark_few : (text : List ℕ) (b : Bool) → length (cond b (drop 3 text) text) ≤ length text
mark_few text true = omega (arith, length-drop 3 text)
mark_few text false = omega arith

text_lines_few : (text : List ℕ) → length (text_lines text) ≤ length text
text_lines_few text =
    omega (arith, lines_few (without_byte_order_mark text), mark_few text (bytes_eq (take 3 text) (239 ∷ 187 ∷ 191 ∷ [])))

-- all lines of a text

pub file_numbered : (lines : List (List ℕ)) (found : List Line) (faults : List Refusal) (most : ℕ) → length lines ≤ most → IsFile lines found faults → AreNumbered 0 found most
file_numbered lines found faults most few f =
    let size : length lines ≡ length f.top + length f.rest = ap length f.cut ∙ length-append f.top f.rest in
    numbered_up 0 found (length f.top + length f.rest) most (omega arith)
    (numbered_down (length f.top) 0 found (length f.top + length f.rest) (omega arith) (blocks_numbered (escape_below Backslash f.directives) (length f.top) f.rest found f.unclosed f.blocks))

short_few : (n : ℕ) → n ≤ most_dockerfile_bytes → n ≤ most_line_number
unfolding most_dockerfile_bytes
short_few n h = h

pub lines_numbered : (text : List ℕ) (found : List Line) → AreLines text found → AreNumbered 0 found most_line_number
lines_numbered text found h = file_numbered (text_lines text) found [] most_line_number (omega (arith, text_lines_few text, short_few (length text) h.0)) h.2

-- the same of a line at its place

numbered_le : (low : ℕ) (lines : List Line) (high : ℕ) → AreNumbered low lines high → low ≤ high
numbered_le low [] high h = h
numbered_le low (line ∷ lines) high h = omega (arith, h.0, numbered_le line.number lines high h.3)

some_is : (a b : Line) → Some a ≡ Some b → a ≡ b
some_is a b e = cc

none_is : (a : Line) → None ≡ Some a → ⊥
none_is a e = cc

abbrev pub IsNumbered : ℕ → Line → ℕ → Type 0
IsNumbered low line high = (low < line.number) × (line.number ≤ high) × (line.text ≢ []) × (trimmed line.text ≡ line.text)

pub numbered_at : (low : ℕ) (lines : List Line) (high : ℕ) → AreNumbered low lines high → (k : ℕ) (line : Line) → slice_get lines k ≡ Some line → IsNumbered low line high
numbered_at low [] high h k line e = absurd (none_is line e)
numbered_at low (x ∷ xs) high h zero line e =
    subst (λ (y : Line). IsNumbered low y high) (some_is x line e) (h.0, numbered_le x.number xs high h.3, h.1, h.2)
numbered_at low (x ∷ xs) high h (suc k) line e =
    let rest = numbered_at x.number xs high h.3 k line e in
    (omega (arith, h.0, rest.0), rest.1, rest.2, rest.3)

pub numbers_ascend : (low : ℕ) (lines : List Line) (high : ℕ) → AreNumbered low lines high → (j k : ℕ) (line other : Line) → slice_get lines j ≡ Some line → slice_get lines k ≡ Some other → j < k → line.number < other.number
numbers_ascend low [] high h j k line other e f l = absurd (none_is line e)
numbers_ascend low (x ∷ xs) high h zero zero line other e f l = absurd (omega arith)
numbers_ascend low (x ∷ xs) high h zero (suc k) line other e f l =
    subst (λ (y : Line). y.number < other.number) (some_is x line e) (numbered_at x.number xs high h.3 k other f).0
numbers_ascend low (x ∷ xs) high h (suc j) zero line other e f l = absurd (omega arith)
numbers_ascend low (x ∷ xs) high h (suc j) (suc k) line other e f l =
    numbers_ascend x.number xs high h.3 j k line other e f (omega arith)
