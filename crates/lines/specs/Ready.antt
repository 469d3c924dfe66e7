-- What of a text is complete while more of it may come (own, over the Dockerfile reference's rules for lines).
use Rattle.std.specs.Prelude.{◌≡◌, ◌⊎◌, ℕ, ◌+◌, ◌==◌, true, false, List, [], ◌∷◌, ◌++◌, All, Option, Some, None, slice_get, length, drop}
use Rattle.std.specs.Str.Lossy.{utf8_valid_len, utf8_error_len}
use Rattle.plain.specs.Limits.{most_lines}
use Rattle.plain.specs.declared.refusal.Code.TheVariants.{R18}
use Rattle.plain.specs.declared.refusal.Refusal.{Refusal}
use Rattle.lines.specs.Blanks.{is_skipped}
use Rattle.lines.specs.Escape.{byte_of}
use Rattle.lines.specs.File.{refused_at, goes_on, BeginsKept, joined_text, AreBodies, AreUnclosed, line_of, numbers_of, AreDirectives, BeginsBelowDirectives, escape_below, directive_faults}
use Rattle.lines.specs.Marks.{marks_of}
use Rattle.lines.specs.Text.{IsShort, text_lines}
use Rattle.lines.specs.declared.escape.Escape as character
use Rattle.lines.specs.declared.escape.Escape.TheVariants.{Backslash}
use Rattle.lines.specs.declared.line.Line.{Line}
use Rattle.lines.specs.declared.line.Heredoc.{Heredoc}
use Rattle.lines.specs.declared.directives.Directive.{Directive}

-- Bytes.

-- a text that is empty or ends with an LF
pub data IsWhole : List ℕ → Type 0 where
  empty : IsWhole []
  ended : (front : List ℕ) → IsWhole (front ++ 10 ∷ [])

-- a text without an LF
abbrev pub HasNoLf : List ℕ → Type 0
HasNoLf line = All (λ b. (b == 10) ≡ false) line

-- the bytes of a text's complete lines, each ended by an LF
abbrev pub AreWhole : List ℕ → List ℕ → Type 0
AreWhole text whole = (rest : List ℕ) × (text ≡ whole ++ rest) × IsWhole whole × HasNoLf rest

-- no byte of the text is at fault: where the text stops being UTF-8, if it does, it ends within a character
abbrev pub BeginsUtf8 : List ℕ → Type 0
BeginsUtf8 text = utf8_error_len (drop (utf8_valid_len text) text) ≡ None

-- Logical lines.

-- these are all lines of one logical line, whatever follows: after each but the last one it goes on, and after that one it doesn't
abbrev pub AreEnded : ℕ → List (List ℕ) → Type 0
AreEnded e [] = ⊥
AreEnded e (line ∷ []) = goes_on e line ≡ false
AreEnded e (line ∷ next ∷ more) = (goes_on e line ≡ true) × AreEnded e (next ∷ more)

-- a logical line goes on after each of these lines
abbrev pub AllGoOn : ℕ → List (List ℕ) → Type 0
AllGoOn e [] = Unit {0}
AllGoOn e (line ∷ more) = (goes_on e line ≡ true) × AllGoOn e more

-- the number of a logical line of this text, which is none where the text is empty (own)
abbrev pub number_if_text : ℕ → List ℕ → Option ℕ
number_if_text number [] = None
number_if_text number (c ∷ cs) = Some number

-- Blocks.

-- these lines, below so many others, are blocks, of which the last one may go on after them: `found` are the logical lines of those
-- that don't, and `begun` is the number of the logical line that isn't complete, if there is one with text so far
pub data AreBegun (escape : character.Escape) : ℕ → List (List ℕ) → List Line → Option ℕ → Type 0 where
  -- no line is left
  nothing : (above : ℕ) → AreBegun escape above [] [] None
  -- a comment or a blank line is dropped (Dockerfile reference, comments)
  skips : (above : ℕ) (line : List ℕ) (lines : List (List ℕ)) (found : List Line) (begun : Option ℕ)
      → is_skipped line ≡ true → AreBegun escape (above + 1) lines found begun
      → AreBegun escape above (line ∷ lines) found begun
  -- a logical line with the bodies of its heredocs, all of them complete
  ends : (above : ℕ) (lines own bodies rest : List (List ℕ)) (heredocs : List Heredoc) (found : List Line) (begun : Option ℕ)
      → lines ≡ own ++ (bodies ++ rest) → BeginsKept own → AreEnded (byte_of escape) own
      → AreBodies (marks_of (joined_text (byte_of escape) own)) bodies heredocs
      → AreBegun escape (above + length (own ++ bodies)) rest found begun
      → AreBegun escape above lines (line_of (above + 1) escape (joined_text (byte_of escape) own) heredocs ++ found) begun
  -- a logical line that goes on takes all lines that are left
  continues : (above : ℕ) (lines : List (List ℕ)) → BeginsKept lines → AllGoOn (byte_of escape) lines
      → AreBegun escape above lines [] (number_if_text (above + 1) (joined_text (byte_of escape) lines))
  -- and so does one whose heredocs aren't closed
  remains : (above : ℕ) (lines own rest : List (List ℕ))
      → lines ≡ own ++ rest → BeginsKept own → AreEnded (byte_of escape) own
      → AreUnclosed (marks_of (joined_text (byte_of escape) own)) rest
      → AreBegun escape above lines [] (Some (above + 1))

-- Files.

-- the lines of a file of which more may come, its complete logical lines, and all that is wrong with it so far
pub record IsBegun (lines : List (List ℕ)) (found : List Line) (faults : List Refusal) : Type 0 where
  pub top : List (List ℕ)
  pub rest : List (List ℕ)
  pub directives : List Directive
  pub begun : Option ℕ
  -- the directives stand at the top, and end at the first line that is none (Dockerfile reference, parser directives)
  pub cut : lines ≡ top ++ rest
  pub read : AreDirectives top directives
  pub ended : BeginsBelowDirectives rest
  -- the escape character is a backslash where no directive sets it (Dockerfile reference, `escape`)
  pub blocks : AreBegun (escape_below Backslash directives) (length top) rest found begun
  -- what is wrong with a file that ends here, but that an unclosed heredoc is nothing wrong yet (own)
  pub wrong : faults ≡ directive_faults [] directives ++ refused_at R18 (slice_get (numbers_of found begun) most_lines)

-- Texts.

-- these are the logical lines of a text that are complete, and nothing is wrong with the text so far
abbrev pub AreComplete : List ℕ → List Line → Type 0
AreComplete text found = IsShort text × BeginsUtf8 text × ((whole : List ℕ) × AreWhole text whole × IsBegun (text_lines whole) found [])

-- what is ready of a text: its complete logical lines, or none where something is wrong with it already (own)
abbrev pub AreReady : List ℕ → List Line → Type 0
AreReady text found = AreComplete text found ⊎ ((found ≡ []) × ((others : List Line) → ¬ (AreComplete text others)))
