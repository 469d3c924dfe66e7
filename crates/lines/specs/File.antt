-- The structure of a Dockerfile: directives at the top, then blocks, of which each is a line that is dropped, or a logical line with
-- the bodies of its heredocs. It says which lines stand where, and nothing of how they are read (own, but where a definition names
-- its source).
use Rattle.std.specs.Prelude.{◌≡◌, ◌⊎◌, ℕ, ◌+◌, Bool, true, false, List, [], ◌∷◌, ◌++◌, ◌||◌, if◌then◌else◌, Option, Some, None, is_some, unwrap_or}
use Rattle.std.specs.Prelude.{slice_get, length, map}
use Rattle.std.specs.List.{concat, flat_map, list_any}
use Rattle.plain.specs.Limits.{most_lines}
use Rattle.plain.specs.declared.refusal.Code.{Code}
use Rattle.plain.specs.declared.refusal.Code.TheVariants.{R02, R03, R08, R18}
use Rattle.plain.specs.declared.refusal.Refusal.{Refusal}
use Rattle.ascii.specs.Blanks.{trimmed}
use Rattle.lines.specs.Blanks.{continued_part, is_skipped}
use Rattle.lines.specs.Directives.{directive_of}
use Rattle.lines.specs.Escape.{byte_of}
use Rattle.lines.specs.Faults.{refusal}
use Rattle.lines.specs.Marks.{marks_of, body_line, closes}
use Rattle.lines.specs.declared.escape.Escape as character
use Rattle.lines.specs.declared.escape.Escape.TheVariants.{Backslash}
use Rattle.lines.specs.declared.line.Heredoc.{Heredoc}
use Rattle.lines.specs.declared.line.Line.{Line}
use Rattle.lines.specs.declared.line.Mark.{Mark}
use Rattle.lines.specs.declared.directives.Directive.{Directive}
use Rattle.lines.specs.declared.directives.Directive.TheVariants.{Escape, Syntax, Check}

-- a refusal at the line of this number, if there is one
abbrev pub refused_at : Code → Option ℕ → List Refusal
refused_at code None = []
refused_at code (Some number) = refusal code number ∷ []

-- Directives.

-- whether two directives have one key
abbrev pub have_one_key : Directive → Directive → Bool
have_one_key (Escape value) (Escape other) = true
have_one_key Syntax Syntax = true
have_one_key Check Check = true
have_one_key directive other = false

-- these lines are these directives
abbrev pub AreDirectives : List (List ℕ) → List Directive → Type 0
AreDirectives lines directives = map directive_of lines ≡ map Some directives

-- the directives have ended above these lines: the first one is none (Dockerfile reference, parser directives)
abbrev pub BeginsBelowDirectives : List (List ℕ) → Type 0
BeginsBelowDirectives [] = Unit {0}
BeginsBelowDirectives (line ∷ lines) = directive_of line ≡ None

-- the escape character below these directives, from the one above them: the last one that names a character sets it (Dockerfile
-- reference, `escape`; that it is the last one of several, which a file that is accepted doesn't have: own)
abbrev pub escape_below : character.Escape → List Directive → character.Escape
escape_below above [] = above
escape_below above (Escape (Some named) ∷ more) = escape_below named more
escape_below above (Escape None ∷ more) = escape_below above more
escape_below above (Syntax ∷ more) = escape_below above more
escape_below above (Check ∷ more) = escape_below above more

-- a directive whose key stands above it is refused (Dockerfile reference, parser directives)
abbrev pub twice_faults : List Directive → Directive → ℕ → List Refusal
twice_faults above directive number = if list_any (have_one_key directive) above then refusal R02 number ∷ [] else []

-- an escape directive whose value names no character is refused (Dockerfile reference, `escape`)
abbrev pub value_faults : Directive → ℕ → List Refusal
value_faults (Escape None) number = refusal R03 number ∷ []
value_faults (Escape (Some named)) number = []
value_faults Syntax number = []
value_faults Check number = []

-- what is wrong with directives that stand below others, the first one of all being on line 1
abbrev pub directive_faults : List Directive → List Directive → List Refusal
directive_faults above [] = []
directive_faults above (directive ∷ more) = twice_faults above directive (length above + 1)
    ++ (value_faults directive (length above + 1) ++ directive_faults (above ++ directive ∷ []) more)

-- Logical lines.

-- whether a logical line goes on after this line of it: comments and blank lines may stand between its lines, and any other line
-- has to continue (Dockerfile reference, comments and `escape`)
abbrev pub goes_on : ℕ → List ℕ → Bool
goes_on e line = is_skipped line || is_some (continued_part e line)

-- a line that isn't dropped: neither a comment nor blank (Dockerfile reference, comments)
abbrev pub IsKept : List ℕ → Type 0
IsKept line = is_skipped line ≡ false

-- a logical line begins with a line that isn't dropped (Dockerfile reference, comments)
abbrev pub BeginsKept : List (List ℕ) → Type 0
BeginsKept [] = ⊥
BeginsKept (line ∷ lines) = IsKept line

-- these are all lines of one logical line, and `rest` stands below them: after each but the last one it goes on, and after that
-- one it doesn't, or the text ends (that the end of the text ends a continuation is of BuildKit's parser)
abbrev pub AreJoined : ℕ → List (List ℕ) → List (List ℕ) → Type 0
AreJoined e [] rest = ⊥
AreJoined e (line ∷ []) rest = (goes_on e line ≡ false) ⊎ (rest ≡ [])
AreJoined e (line ∷ next ∷ more) rest = (goes_on e line ≡ true) × AreJoined e (next ∷ more) rest

-- what a line adds to its logical line: nothing where it is dropped, what stands before the escape character where it continues,
-- and else all of it (as BuildKit's parser joins them)
abbrev pub part_of : ℕ → List ℕ → List ℕ
part_of e line = if is_skipped line then [] else unwrap_or (continued_part e line) line

-- what lines join to, without leading and trailing blanks (own)
abbrev pub joined_text : ℕ → List (List ℕ) → List ℕ
joined_text e lines = trimmed (concat (map (part_of e) lines))

-- Heredocs.

-- none of these lines closes the heredoc of this mark
abbrev pub AreInside : Mark → List (List ℕ) → Type 0
AreInside mark [] = Unit {0}
AreInside mark (line ∷ lines) = (closes mark line ≡ false) × AreInside mark lines

-- the heredoc of these lines: each with its LF (Dockerfile reference, here-documents)
abbrev pub heredoc_of : Mark → List (List ℕ) → Heredoc
heredoc_of mark lines = record { mark = mark; body = flat_map (λ line. body_line mark line ++ 10 ∷ []) lines }

-- these lines are the bodies of the heredocs of these marks, in the marks' order, each up to the first line that closes it
-- (Dockerfile reference, here-documents)
abbrev pub AreBodies : List Mark → List (List ℕ) → List Heredoc → Type 0
AreBodies [] lines [] = lines ≡ []
AreBodies [] lines (heredoc ∷ heredocs) = ⊥
AreBodies (mark ∷ marks) lines [] = ⊥
AreBodies (mark ∷ marks) lines (heredoc ∷ heredocs) =
    (body : List (List ℕ)) × (closing : List ℕ) × (rest : List (List ℕ)) × (lines ≡ body ++ closing ∷ rest)
    × AreInside mark body × (closes mark closing ≡ true) × (heredoc ≡ heredoc_of mark body) × AreBodies marks rest heredocs

-- these lines, up to the end of the text, hold the bodies of the first ones of these heredocs, maybe of none, and don't close the
-- next one
pub record AreUnclosed (marks : List Mark) (lines : List (List ℕ)) : Type 0 where
  pub closed : List Mark
  pub mark : Mark
  pub more : List Mark
  pub bodies : List (List ℕ)
  pub rest : List (List ℕ)
  pub heredocs : List Heredoc
  pub order : marks ≡ closed ++ mark ∷ more
  pub cut : lines ≡ bodies ++ rest
  pub are : AreBodies closed bodies heredocs
  pub inside : AreInside mark rest

-- Blocks.

-- the logical line of a text that isn't empty (own)
abbrev pub line_of : ℕ → character.Escape → List ℕ → List Heredoc → List Line
line_of number escape [] heredocs = []
line_of number escape (c ∷ cs) heredocs = record { number = number; text = c ∷ cs; heredocs = heredocs; escape = escape } ∷ []

-- these lines, below so many others and up to the end of the text, are blocks: `found` are their logical lines, and `unclosed` is the
-- number of the one whose heredocs aren't closed, if there is one
pub data AreBlocks (escape : character.Escape) : ℕ → List (List ℕ) → List Line → Option ℕ → Type 0 where
  -- the text ends
  none : (above : ℕ) → AreBlocks escape above [] [] None
  -- a comment or a blank line is dropped (Dockerfile reference, comments)
  dropped : (above : ℕ) (line : List ℕ) (lines : List (List ℕ)) (found : List Line) (unclosed : Option ℕ)
      → is_skipped line ≡ true → AreBlocks escape (above + 1) lines found unclosed
      → AreBlocks escape above (line ∷ lines) found unclosed
  -- a logical line, with the number of its first line, and the bodies of its heredocs
  logical : (above : ℕ) (lines own bodies rest : List (List ℕ)) (heredocs : List Heredoc) (found : List Line) (unclosed : Option ℕ)
      → lines ≡ own ++ (bodies ++ rest) → BeginsKept own → AreJoined (byte_of escape) own (bodies ++ rest)
      → AreBodies (marks_of (joined_text (byte_of escape) own)) bodies heredocs
      → AreBlocks escape (above + length (own ++ bodies)) rest found unclosed
      → AreBlocks escape above lines (line_of (above + 1) escape (joined_text (byte_of escape) own) heredocs ++ found) unclosed
  -- a logical line whose heredocs aren't closed takes all lines that are left
  open_ended : (above : ℕ) (lines own rest : List (List ℕ))
      → lines ≡ own ++ rest → BeginsKept own → AreJoined (byte_of escape) own rest
      → AreUnclosed (marks_of (joined_text (byte_of escape) own)) rest
      → AreBlocks escape above lines [] (Some (above + 1))

-- Files.

-- a number alone, or nothing
abbrev pub if_some : Option ℕ → List ℕ
if_some None = []
if_some (Some number) = number ∷ []

-- the numbers of all logical lines, also of one whose heredocs aren't closed
abbrev pub numbers_of : List Line → Option ℕ → List ℕ
numbers_of found unclosed = map (λ line. line.number) found ++ if_some unclosed

-- the lines of a file, its logical lines, and all that is wrong with it
pub record IsFile (lines : List (List ℕ)) (found : List Line) (faults : List Refusal) : Type 0 where
  pub top : List (List ℕ)
  pub rest : List (List ℕ)
  pub directives : List Directive
  pub unclosed : Option ℕ
  -- the directives stand at the top, and end at the first line that is none (Dockerfile reference, parser directives)
  pub cut : lines ≡ top ++ rest
  pub read : AreDirectives top directives
  pub ended : BeginsBelowDirectives rest
  -- the escape character is a backslash where no directive sets it (Dockerfile reference, `escape`)
  pub blocks : AreBlocks (escape_below Backslash directives) (length top) rest found unclosed
  -- R02 and R03 are those of the directives; the logical line after 4,096 others is R18 (own), and one whose heredocs the text
  -- leaves unclosed is R08 (own; BuildKit refuses it too)
  pub wrong : faults ≡ directive_faults [] directives
      ++ (refused_at R18 (slice_get (numbers_of found unclosed) most_lines) ++ refused_at R08 unclosed)
