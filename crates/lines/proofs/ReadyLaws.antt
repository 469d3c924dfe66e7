-- Laws of a file of which more may come: reading its lines one by one gives what its structure gives, and each list of lines has one.
use Rattle.std.specs.Prelude.{◌≡◌, ◌≢◌, ◌≤◌, ◌⊎◌, ℕ, zero, suc, ◌+◌, Bool, true, false, List, [], ◌∷◌, ◌++◌, Option, Some, None, slice_get, length, refl}
use Rattle.std.proofs.Common.{sym, ◌∙◌, ap, subst, inl, inr, arith}
use Rattle.std.proofs.lemmas.List.{length-append}
use Rattle.plain.specs.Limits.{most_lines}
use Rattle.plain.specs.declared.refusal.Code.TheVariants.{R18}
use Rattle.plain.specs.declared.refusal.Refusal.{Refusal}
use Rattle.lines.specs.Blanks.{is_skipped}
use Rattle.lines.specs.Escape.{byte_of}
use Rattle.lines.specs.File.{refused_at, escape_below, directive_faults, goes_on, joined_text, AreUnclosed, line_of, numbers_of, BeginsBelowDirectives}
use Rattle.lines.specs.Marks.{marks_of}
use Rattle.lines.specs.PrivateSteps.{initial_state, after_lines}
use Rattle.lines.specs.Text.{IsShort, text_lines}
use Rattle.lines.proofs.WholeLemmas.{whole_same}
use Rattle.lines.specs.Ready.{AreWhole, BeginsUtf8, AreComplete, AreReady, AreEnded, AllGoOn, number_if_text, AreBegun, nothing, skips, ends, continues, remains, IsBegun}
use Rattle.lines.specs.declared.escape.Escape as character
use Rattle.lines.specs.declared.escape.Escape.TheVariants.{Backslash}
use Rattle.lines.specs.declared.directives.Directive.{Directive}
use Rattle.lines.specs.declared.line.Line.{Line}
use Rattle.lines.specs.declared.state.FileState.{FileState}
use Rattle.lines.proofs.BegunLaws.{begun_given}
use Rattle.lines.proofs.BlockLaws.{base, limits_at}
use Rattle.lines.proofs.CutLaws.{top_cut, AreBodiesCut, bodies_cut}
use Rattle.lines.proofs.FileLaws.{at_top, top_walk, plain_line, top_length}
use Rattle.lines.proofs.ScanLaws.{faults_so_far}

-- two readings have the same complete lines, and the same is wrong with them
abbrev GiveSame : FileState → FileState → Type 0
GiveSame a b = (a.lines ≡ b.lines) × (faults_so_far a ≡ faults_so_far b)

top_begun : (escape : character.Escape) (above : List Directive) (faults : List Refusal) (rest : List (List ℕ)) → BeginsBelowDirectives rest
    → GiveSame (after_lines (at_top escape above faults) rest) (after_lines (base escape (length above) [] faults) rest)
top_begun escape above faults [] h = (refl, refl)
top_begun escape above faults (line ∷ rest) h =
    let e : after_lines (at_top escape above faults) (line ∷ rest) ≡ after_lines (base escape (length above) [] faults) (line ∷ rest) = ap (λ (s : FileState). after_lines s rest) (plain_line escape above faults line h) in
    (ap (λ (s : FileState). s.lines) e, ap faults_so_far e)

-- the structure gives what reading the lines one by one gives
pub begun_only : (lines : List (List ℕ)) (found : List Line) (faults : List Refusal) → IsBegun lines found faults
    → (found ≡ (after_lines initial_state lines).lines) × (faults ≡ faults_so_far (after_lines initial_state lines))
begun_only lines found faults f =
    let escape = escape_below Backslash f.directives in
    let fs = directive_faults [] f.directives in
    let ns = numbers_of found f.begun in
    let walk : after_lines initial_state lines ≡ after_lines (at_top escape f.directives fs) f.rest =
    ap (after_lines initial_state) f.cut ∙ top_walk f.directives Backslash [] [] f.top f.rest f.read in
    let top = top_begun escape f.directives fs f.rest f.ended in
    let blocks = subst (λ n. AreBegun escape n f.rest found f.begun) (top_length f.top f.directives f.read) f.blocks in
    let given = begun_given escape (length f.directives) f.rest found f.begun blocks [] fs in
    let limits = limits_at most_lines 0 ns refl in (
      sym (ap (λ (s : FileState). s.lines) walk ∙ top.0 ∙ given.lines),
      f.wrong ∙ ap (λ (x : List Refusal). fs ++ x) (sym limits) ∙ sym (ap faults_so_far walk ∙ top.1 ∙ given.wrong),
    )

-- a logical line is cut off, or it goes on to the end

record IsEndedCut (e : ℕ) (line : List ℕ) (lines : List (List ℕ)) : Type 0 where
  more : List (List ℕ)
  rest : List (List ℕ)
  is : lines ≡ more ++ rest
  ended : AreEnded e (line ∷ more)

head_last : (e : ℕ) (line : List ℕ) (b : Bool) → goes_on e line ≡ b → IsEndedCut e line [] ⊎ AllGoOn e (line ∷ [])
head_last e line false h = inl (record { more = []; rest = []; is = refl; ended = h })
head_last e line true h = inr (h, tt)

head_by : (e : ℕ) (line next : List ℕ) (lines : List (List ℕ)) (b : Bool) → goes_on e line ≡ b → IsEndedCut e next lines ⊎ AllGoOn e (next ∷ lines)
    → IsEndedCut e line (next ∷ lines) ⊎ AllGoOn e (line ∷ next ∷ lines)
head_by e line next lines false h c = inl (record { more = []; rest = next ∷ lines; is = refl; ended = h })
head_by e line next lines true h (inl c) = inl (record { more = next ∷ c.more; rest = c.rest; is = ap (λ x. next ∷ x) c.is; ended = (h, c.ended) })
head_by e line next lines true h (inr a) = inr (h, a)

head_begun : (e : ℕ) (line : List ℕ) (lines : List (List ℕ)) → IsEndedCut e line lines ⊎ AllGoOn e (line ∷ lines)
head_begun e line [] = head_last e line (goes_on e line) refl
head_begun e line (next ∷ lines) = head_by e line next lines (goes_on e line) refl (head_begun e next lines)

record IsBegunCut (escape : character.Escape) (above : ℕ) (lines : List (List ℕ)) : Type 0 where
  found : List Line
  begun : Option ℕ
  blocks : AreBegun escape above lines found begun

logical_begun : (escape : character.Escape) (k above : ℕ) (line : List ℕ) (lines : List (List ℕ)) → length lines ≤ k → is_skipped line ≡ false
    → ((above : ℕ) (rest : List (List ℕ)) → length rest ≤ k → IsBegunCut escape above rest)
    → (c : IsEndedCut (byte_of escape) line lines) → AreBodiesCut (marks_of (joined_text (byte_of escape) (line ∷ c.more))) c.rest ⊎ AreUnclosed (marks_of (joined_text (byte_of escape) (line ∷ c.more))) c.rest
    → IsBegunCut escape above (line ∷ lines)
logical_begun escape k above line lines few kept more c (inl d) =
    let own = line ∷ c.more in
    let is : line ∷ lines ≡ own ++ (d.bodies ++ d.rest) = ap (λ x. line ∷ x) (c.is ∙ ap (λ x. c.more ++ x) d.is) in
    let size : length lines ≡ length c.more + (length d.bodies + length d.rest) = ap length (c.is ∙ ap (λ x. c.more ++ x) d.is) ∙ length-append c.more (d.bodies ++ d.rest) ∙ ap (λ n. length c.more + n) (length-append d.bodies d.rest) in
    let next = more (above + length (own ++ d.bodies)) d.rest (omega arith) in
    record {
      found = line_of (above + 1) escape (joined_text (byte_of escape) own) d.heredocs ++ next.found;
      begun = next.begun;
      blocks = ends above (line ∷ lines) own d.bodies d.rest d.heredocs next.found next.begun is kept c.ended d.are next.blocks;
    }
logical_begun escape k above line lines few kept more c (inr u) =
    record { found = []; begun = Some (above + 1); blocks = remains above (line ∷ lines) (line ∷ c.more) c.rest (ap (λ x. line ∷ x) c.is) kept c.ended u }

kept_begun : (escape : character.Escape) (k above : ℕ) (line : List ℕ) (lines : List (List ℕ)) → length lines ≤ k → is_skipped line ≡ false
    → ((above : ℕ) (rest : List (List ℕ)) → length rest ≤ k → IsBegunCut escape above rest)
    → IsEndedCut (byte_of escape) line lines ⊎ AllGoOn (byte_of escape) (line ∷ lines) → IsBegunCut escape above (line ∷ lines)
kept_begun escape k above line lines few kept more (inl c) =
    logical_begun escape k above line lines few kept more c (bodies_cut (marks_of (joined_text (byte_of escape) (line ∷ c.more))) c.rest)
kept_begun escape k above line lines few kept more (inr a) =
    record { found = []; begun = number_if_text (above + 1) (joined_text (byte_of escape) (line ∷ lines)); blocks = continues above (line ∷ lines) kept a }

block_begun : (escape : character.Escape) (k above : ℕ) (line : List ℕ) (lines : List (List ℕ)) (b : Bool) → is_skipped line ≡ b → length lines ≤ k
    → ((above : ℕ) (rest : List (List ℕ)) → length rest ≤ k → IsBegunCut escape above rest) → IsBegunCut escape above (line ∷ lines)
block_begun escape k above line lines true h few more =
    let next = more (above + 1) lines few in
    record { found = next.found; begun = next.begun; blocks = skips above line lines next.found next.begun h next.blocks }
block_begun escape k above line lines false h few more = kept_begun escape k above line lines few h more (head_begun (byte_of escape) line lines)

blocks_begun : (escape : character.Escape) (k above : ℕ) (lines : List (List ℕ)) → length lines ≤ k → IsBegunCut escape above lines
blocks_begun escape k above [] h = record { found = []; begun = None; blocks = nothing above }
blocks_begun escape zero above (line ∷ lines) h = absurd (omega arith)
blocks_begun escape (suc k) above (line ∷ lines) h = block_begun escape k above line lines (is_skipped line) refl (omega arith) (blocks_begun escape k)

record HasBegun (lines : List (List ℕ)) : Type 0 where
  found : List Line
  faults : List Refusal
  file : IsBegun lines found faults

begun_of : (lines : List (List ℕ)) → HasBegun lines
begun_of lines =
    let c = top_cut lines in
    let b = blocks_begun (escape_below Backslash c.directives) (length c.rest) (length c.top) c.rest (omega arith) in
    record {
      found = b.found;
      faults = directive_faults [] c.directives ++ refused_at R18 (slice_get (numbers_of b.found b.begun) most_lines);
      file = record { top = c.top; rest = c.rest; directives = c.directives; begun = b.begun; cut = c.cut; read = c.read; ended = c.ended; blocks = b.blocks; wrong = refl };
    }

-- and what that gives has the structure
pub begun_is : (lines : List (List ℕ)) → IsBegun lines (after_lines initial_state lines).lines (faults_so_far (after_lines initial_state lines))
begun_is lines =
    let s = begun_of lines in
    let only = begun_only lines s.found s.faults s.file in
    subst (λ (found : List Line). IsBegun lines found (faults_so_far (after_lines initial_state lines))) only.0 (subst (λ (faults : List Refusal). IsBegun lines s.found faults) only.1 s.file)

pub begun_same : (lines : List (List ℕ)) (found others : List Line) (faults wrong : List Refusal) → IsBegun lines found faults → IsBegun lines others wrong → (found ≡ others) × (faults ≡ wrong)
begun_same lines found others faults wrong f g =
    let a = begun_only lines found faults f in
    let b = begun_only lines others wrong g in
    (a.0 ∙ sym b.0, a.1 ∙ sym b.1)

-- what is ready of a text

pub ready_lines : (text whole : List ℕ) → IsShort text → BeginsUtf8 text → AreWhole text whole → faults_so_far (after_lines initial_state (text_lines whole)) ≡ []
    → AreReady text (after_lines initial_state (text_lines whole)).lines
ready_lines text whole short begins cut fine =
    inl (short, begins, (whole, cut, subst (λ (fs : List Refusal). IsBegun (text_lines whole) (after_lines initial_state (text_lines whole)).lines fs) fine (begun_is (text_lines whole))))

same_whole : (text whole other : List ℕ) → AreWhole text whole → AreWhole text other → whole ≡ other
same_whole text whole other h i = whole_same whole h.0 other i.0 h.2 h.3 i.2 i.3 (sym h.1 ∙ i.1)

pub ready_nothing : (text whole : List ℕ) → AreWhole text whole → faults_so_far (after_lines initial_state (text_lines whole)) ≢ [] → AreReady text []
ready_nothing text whole cut wrong =
    inr (
      refl,
      λ others c.
          let other = c.2.0 in
          let same : whole ≡ other = same_whole text whole other cut c.2.1 in
          let only = begun_only (text_lines other) others [] c.2.2 in
          wrong (ap (λ (t : List ℕ). faults_so_far (after_lines initial_state (text_lines t))) same ∙ sym only.1),
    )

pub ready_bad : (text : List ℕ) → ¬ (BeginsUtf8 text) → AreReady text []
ready_bad text bad = inr (refl, λ others c. bad c.1)

pub ready_long : (text : List ℕ) → ¬ (IsShort text) → AreReady text []
ready_long text long = inr (refl, λ others c. long c.0)

-- a text has one list of lines that are ready at most

complete_same : (text : List ℕ) (found others : List Line) → AreComplete text found → AreComplete text others → found ≡ others
complete_same text found others c d =
    let same : d.2.0 ≡ c.2.0 = same_whole text d.2.0 c.2.0 d.2.1 c.2.1 in
    (begun_same (text_lines c.2.0) found others [] [] c.2.2 (subst (λ (whole : List ℕ). IsBegun (text_lines whole) others []) same d.2.2)).0

pub ready_same : (text : List ℕ) (found others : List Line) → AreReady text found → AreReady text others → found ≡ others
ready_same text found others (inl c) (inl d) = complete_same text found others c d
ready_same text found others (inl c) (inr n) = absurd (n.1 found c)
ready_same text found others (inr n) (inl d) = absurd (n.1 others d)
ready_same text found others (inr n) (inr m) = n.0 ∙ sym m.0
