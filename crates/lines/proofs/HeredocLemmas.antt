-- What the logical lines of a file have in common: their heredocs are those of their marks, and they have one escape character.
use Rattle.std.proofs.Common.{◌≡◌, ◌+◌, ℕ, zero, suc, Option, Some, None, List, [], ◌∷◌, ◌++◌, length, map, refl, sym, ap, ap₂, ◌∙◌, subst}
use Rattle.std.specs.Prelude.{slice_get}
use Rattle.plain.specs.declared.refusal.Refusal.{Refusal}
use Rattle.lines.specs.Escape.{byte_of}
use Rattle.lines.specs.File.{escape_below, joined_text, AreBodies, line_of, AreBlocks, none, dropped, logical, open_ended, IsFile}
use Rattle.lines.specs.Marks.{marks_of}
use Rattle.lines.specs.Text.{text_lines, AreLines}
use Rattle.lines.specs.declared.escape.Escape.{Escape}
use Rattle.lines.specs.declared.escape.Escape.TheVariants.{Backslash}
use Rattle.lines.specs.declared.line.Heredoc.{Heredoc}
use Rattle.lines.specs.declared.line.Line.{Line}
use Rattle.lines.specs.declared.line.Mark.{Mark}

abbrev marks_read : List Heredoc → List Mark
marks_read heredocs = map (λ heredoc. heredoc.mark) heredocs

bodies_marked : (marks : List Mark) (lines : List (List ℕ)) (heredocs : List Heredoc) → AreBodies marks lines heredocs → marks_read heredocs ≡ marks
bodies_marked [] lines [] h = refl
bodies_marked [] lines (heredoc ∷ heredocs) h = absurd h
bodies_marked (mark ∷ marks) lines [] h = absurd h
bodies_marked (mark ∷ marks) lines (heredoc ∷ heredocs) h =
    ap₂ (λ (x : Mark) (xs : List Mark). x ∷ xs) (ap (λ (x : Heredoc). x.mark) h.6) (bodies_marked marks h.2 heredocs h.7)

-- each line has its heredocs by its marks, and this escape character
abbrev AreOf : Escape → List Line → Type 0
AreOf escape [] = Unit {0}
AreOf escape (line ∷ lines) = (marks_read line.heredocs ≡ marks_of line.text) × (line.escape ≡ escape) × AreOf escape lines

line_is_of : (escape : Escape) (number : ℕ) (text : List ℕ) (heredocs : List Heredoc) (found : List Line) → marks_read heredocs ≡ marks_of text → AreOf escape found → AreOf escape (line_of number escape text heredocs ++ found)
line_is_of escape number [] heredocs found h more = more
line_is_of escape number (c ∷ cs) heredocs found h more = (h, refl, more)

blocks_are_of : (escape : Escape) (above : ℕ) (lines : List (List ℕ)) (found : List Line) (unclosed : Option ℕ) → AreBlocks escape above lines found unclosed → AreOf escape found
blocks_are_of escape _ _ _ _ (none above) = tt
blocks_are_of escape _ _ _ _ (dropped above line lines found unclosed skipped more) = blocks_are_of escape (above + 1) lines found unclosed more
blocks_are_of escape _ _ _ _ (logical above lines own bodies rest heredocs found unclosed is kept joined are more) =
    let text = joined_text (byte_of escape) own in
    line_is_of escape (above + 1) text heredocs found (bodies_marked (marks_of text) bodies heredocs are) (blocks_are_of escape (above + length (own ++ bodies)) rest found unclosed more)
blocks_are_of escape _ _ _ _ (open_ended above lines own rest is kept joined unclosed) = tt

some_is : (a b : Line) → Some a ≡ Some b → a ≡ b
some_is a b e = cc

none_is : (a : Line) → None ≡ Some a → ⊥
none_is a e = cc

is_of_at : (escape : Escape) (found : List Line) → AreOf escape found → (k : ℕ) (line : Line) → slice_get found k ≡ Some line → (marks_read line.heredocs ≡ marks_of line.text) × (line.escape ≡ escape)
is_of_at escape [] h k line e = absurd (none_is line e)
is_of_at escape (x ∷ xs) h zero line e =
    subst (λ (y : Line). (marks_read y.heredocs ≡ marks_of y.text) × (y.escape ≡ escape)) (some_is x line e) (h.0, h.1)
is_of_at escape (x ∷ xs) h (suc k) line e = is_of_at escape xs h.2 k line e

-- the file's escape character
abbrev escape_of : (lines : List (List ℕ)) (found : List Line) (faults : List Refusal) → IsFile lines found faults → Escape
escape_of lines found faults file = escape_below Backslash file.directives

file_at : (lines : List (List ℕ)) (found : List Line) (faults : List Refusal) (file : IsFile lines found faults) → (k : ℕ) (line : Line) → slice_get found k ≡ Some line
    → (marks_read line.heredocs ≡ marks_of line.text) × (line.escape ≡ escape_of lines found faults file)
file_at lines found faults file k line e =
    let escape = escape_of lines found faults file in
    is_of_at escape found (blocks_are_of escape (length file.top) file.rest found file.unclosed file.blocks) k line e

pub heredocs_marked : (text : List ℕ) (found : List Line) → AreLines text found → (k : ℕ) (line : Line) → slice_get found k ≡ Some line → marks_read line.heredocs ≡ marks_of line.text
heredocs_marked text found h k line e = (file_at (text_lines text) found [] h.2 k line e).0

pub one_escape : (text : List ℕ) (found : List Line) → AreLines text found → (j k : ℕ) (line other : Line) → slice_get found j ≡ Some line → slice_get found k ≡ Some other → line.escape ≡ other.escape
one_escape text found h j k line other e f = (file_at (text_lines text) found [] h.2 j line e).1 ∙ sym (file_at (text_lines text) found [] h.2 k other f).1
