-- Laws of a file's structure: each list of lines can be cut so that it has one.
use Rattle.std.specs.Prelude.{◌≡◌, ◌≤◌, ◌⊎◌, ℕ, zero, suc, ◌+◌, Bool, true, false, List, [], ◌∷◌, ◌++◌, Option, Some, None, slice_get, length, refl}
use Rattle.std.proofs.Common.{sym, ◌∙◌, ap, ap₂, subst, inl, inr, append_assoc, arith}
use Rattle.std.proofs.lemmas.List.{length-append}
use Rattle.plain.specs.declared.refusal.Code.TheVariants.{R08, R18}
use Rattle.plain.specs.declared.refusal.Refusal.{Refusal}
use Rattle.lines.specs.Blanks.{is_skipped}
use Rattle.lines.specs.Directives.{directive_of}
use Rattle.lines.specs.Escape.{byte_of}
use Rattle.lines.specs.File.{refused_at, AreDirectives, escape_below, directive_faults, goes_on, AreJoined, joined_text, AreInside, heredoc_of, AreBodies, AreUnclosed, line_of, AreBlocks, none, dropped, logical, open_ended, numbers_of, IsFile, BeginsBelowDirectives}
use Rattle.plain.specs.Limits.{most_lines}
use Rattle.lines.specs.Marks.{marks_of, closes}
use Rattle.lines.specs.declared.escape.Escape as character
use Rattle.lines.specs.declared.escape.Escape.TheVariants.{Backslash}
use Rattle.lines.specs.declared.line.Heredoc.{Heredoc}
use Rattle.lines.specs.declared.line.Line.{Line}
use Rattle.lines.specs.declared.line.Mark.{Mark}
use Rattle.lines.specs.declared.directives.Directive.{Directive}

-- a logical line is cut off from the lines that begin with it
record IsHeadCut (e : ℕ) (line : List ℕ) (lines : List (List ℕ)) : Type 0 where
  more : List (List ℕ)
  rest : List (List ℕ)
  is : lines ≡ more ++ rest
  joined : AreJoined e (line ∷ more) rest

head_cut_by : (e : ℕ) (line next : List ℕ) (lines : List (List ℕ)) (b : Bool) → goes_on e line ≡ b → IsHeadCut e next lines → IsHeadCut e line (next ∷ lines)
head_cut_by e line next lines false h c = record { more = []; rest = next ∷ lines; is = refl; joined = inl h }
head_cut_by e line next lines true h c = record { more = next ∷ c.more; rest = c.rest; is = ap (λ x. next ∷ x) c.is; joined = (h, c.joined) }

head_cut : (e : ℕ) (line : List ℕ) (lines : List (List ℕ)) → IsHeadCut e line lines
head_cut e line [] = record { more = []; rest = []; is = refl; joined = inr refl }
head_cut e line (next ∷ lines) = head_cut_by e line next lines (goes_on e line) refl (head_cut e next lines)

-- a heredoc's body is cut off
record IsBodyCut (mark : Mark) (lines : List (List ℕ)) : Type 0 where
  body : List (List ℕ)
  closing : List ℕ
  rest : List (List ℕ)
  is : lines ≡ body ++ closing ∷ rest
  inside : AreInside mark body
  closes_it : closes mark closing ≡ true

body_cut_by : (mark : Mark) (line : List ℕ) (lines : List (List ℕ)) (b : Bool) → closes mark line ≡ b → IsBodyCut mark lines ⊎ AreInside mark lines → IsBodyCut mark (line ∷ lines) ⊎ AreInside mark (line ∷ lines)
body_cut_by mark line lines true h c = inl (record { body = []; closing = line; rest = lines; is = refl; inside = tt; closes_it = h })
body_cut_by mark line lines false h (inl c) = inl (record { body = line ∷ c.body; closing = c.closing; rest = c.rest; is = ap (λ x. line ∷ x) c.is; inside = (h, c.inside); closes_it = c.closes_it })
body_cut_by mark line lines false h (inr i) = inr (h, i)

body_cut : (mark : Mark) (lines : List (List ℕ)) → IsBodyCut mark lines ⊎ AreInside mark lines
body_cut mark [] = inr tt
body_cut mark (line ∷ lines) = body_cut_by mark line lines (closes mark line) refl (body_cut mark lines)

-- all bodies are cut off
pub record AreBodiesCut (marks : List Mark) (lines : List (List ℕ)) : Type 0 where
  pub bodies : List (List ℕ)
  pub rest : List (List ℕ)
  pub heredocs : List Heredoc
  pub is : lines ≡ bodies ++ rest
  pub are : AreBodies marks bodies heredocs

bodies_cut_more : (mark : Mark) (marks : List Mark) (lines : List (List ℕ)) (c : IsBodyCut mark lines) → AreBodiesCut marks c.rest ⊎ AreUnclosed marks c.rest → AreBodiesCut (mark ∷ marks) lines ⊎ AreUnclosed (mark ∷ marks) lines
bodies_cut_more mark marks lines c (inl d) = inl (record {
  bodies = c.body ++ c.closing ∷ d.bodies;
  rest = d.rest;
  heredocs = heredoc_of mark c.body ∷ d.heredocs;
  is = c.is ∙ ap (λ x. c.body ++ c.closing ∷ x) d.is ∙ sym (append_assoc c.body (c.closing ∷ d.bodies) d.rest);
  are = (c.body, c.closing, d.bodies, refl, c.inside, c.closes_it, refl, d.are);
})
bodies_cut_more mark marks lines c (inr u) = inr (record {
  closed = mark ∷ u.closed;
  mark = u.mark;
  more = u.more;
  bodies = c.body ++ c.closing ∷ u.bodies;
  rest = u.rest;
  heredocs = heredoc_of mark c.body ∷ u.heredocs;
  order = ap (λ x. mark ∷ x) u.order;
  cut = c.is ∙ ap (λ x. c.body ++ c.closing ∷ x) u.cut ∙ sym (append_assoc c.body (c.closing ∷ u.bodies) u.rest);
  are = (c.body, c.closing, u.bodies, refl, c.inside, c.closes_it, refl, u.are);
  inside = u.inside;
})

bodies_cut_by : (mark : Mark) (marks : List Mark) (lines : List (List ℕ)) → IsBodyCut mark lines ⊎ AreInside mark lines → ((rest : List (List ℕ)) → AreBodiesCut marks rest ⊎ AreUnclosed marks rest) → AreBodiesCut (mark ∷ marks) lines ⊎ AreUnclosed (mark ∷ marks) lines
bodies_cut_by mark marks lines (inl c) more = bodies_cut_more mark marks lines c (more c.rest)
bodies_cut_by mark marks lines (inr i) more =
    inr (record { closed = []; mark = mark; more = marks; bodies = []; rest = lines; heredocs = []; order = refl; cut = refl; are = refl; inside = i })

pub bodies_cut : (marks : List Mark) (lines : List (List ℕ)) → AreBodiesCut marks lines ⊎ AreUnclosed marks lines
bodies_cut [] lines = inl (record { bodies = []; rest = lines; heredocs = []; is = refl; are = refl })
bodies_cut (mark ∷ marks) lines = bodies_cut_by mark marks lines (body_cut mark lines) (bodies_cut marks)

-- the lines are cut into blocks
pub record IsCut (escape : character.Escape) (above : ℕ) (lines : List (List ℕ)) : Type 0 where
  pub found : List Line
  pub unclosed : Option ℕ
  pub blocks : AreBlocks escape above lines found unclosed

fewer : (k a b c : ℕ) → a + 1 ≤ k + 1 → a ≡ b + c → c ≤ k
fewer k a b c h e = omega arith

logical_cut : (escape : character.Escape) (k above : ℕ) (line : List ℕ) (lines : List (List ℕ)) → length lines ≤ k → is_skipped line ≡ false
    → ((above : ℕ) (rest : List (List ℕ)) → length rest ≤ k → IsCut escape above rest)
    → (c : IsHeadCut (byte_of escape) line lines) → AreBodiesCut (marks_of (joined_text (byte_of escape) (line ∷ c.more))) c.rest ⊎ AreUnclosed (marks_of (joined_text (byte_of escape) (line ∷ c.more))) c.rest
    → IsCut escape above (line ∷ lines)
logical_cut escape k above line lines few kept more c (inl d) =
    let own = line ∷ c.more in
    let is : line ∷ lines ≡ own ++ (d.bodies ++ d.rest) = ap (λ x. line ∷ x) (c.is ∙ ap (λ x. c.more ++ x) d.is) in
    let size : length lines ≡ length c.more + (length d.bodies + length d.rest) = ap length (c.is ∙ ap (λ x. c.more ++ x) d.is) ∙ length-append c.more (d.bodies ++ d.rest) ∙ ap (λ n. length c.more + n) (length-append d.bodies d.rest) in
    let next = more (above + length (own ++ d.bodies)) d.rest (omega arith) in
    record {
      found = line_of (above + 1) escape (joined_text (byte_of escape) own) d.heredocs ++ next.found;
      unclosed = next.unclosed;
      blocks = logical above (line ∷ lines) own d.bodies d.rest d.heredocs next.found next.unclosed is kept (subst (AreJoined (byte_of escape) own) d.is c.joined) d.are next.blocks;
    }
logical_cut escape k above line lines few kept more c (inr u) =
    record { found = []; unclosed = Some (above + 1); blocks = open_ended above (line ∷ lines) (line ∷ c.more) c.rest (ap (λ x. line ∷ x) c.is) kept c.joined u }

block_cut : (escape : character.Escape) (k above : ℕ) (line : List ℕ) (lines : List (List ℕ)) (b : Bool) → is_skipped line ≡ b → length lines ≤ k
    → ((above : ℕ) (rest : List (List ℕ)) → length rest ≤ k → IsCut escape above rest) → IsCut escape above (line ∷ lines)
block_cut escape k above line lines true h few more =
    let next = more (above + 1) lines few in
    record { found = next.found; unclosed = next.unclosed; blocks = dropped above line lines next.found next.unclosed h next.blocks }
block_cut escape k above line lines false h few more =
    let c = head_cut (byte_of escape) line lines in
    logical_cut escape k above line lines few h more c (bodies_cut (marks_of (joined_text (byte_of escape) (line ∷ c.more))) c.rest)

pub blocks_cut : (escape : character.Escape) (k above : ℕ) (lines : List (List ℕ)) → length lines ≤ k → IsCut escape above lines
blocks_cut escape k above [] h = record { found = []; unclosed = None; blocks = none above }
blocks_cut escape zero above (line ∷ lines) h = absurd (omega arith)
blocks_cut escape (suc k) above (line ∷ lines) h = block_cut escape k above line lines (is_skipped line) refl (omega arith) (blocks_cut escape k)

-- the directives are cut off
pub record IsTopCut (lines : List (List ℕ)) : Type 0 where
  pub top : List (List ℕ)
  pub rest : List (List ℕ)
  pub directives : List Directive
  pub cut : lines ≡ top ++ rest
  pub read : AreDirectives top directives
  pub ended : BeginsBelowDirectives rest

top_cut_by : (line : List ℕ) (lines : List (List ℕ)) (o : Option Directive) → directive_of line ≡ o → IsTopCut lines → IsTopCut (line ∷ lines)
top_cut_by line lines None h c = record { top = []; rest = line ∷ lines; directives = []; cut = refl; read = refl; ended = h }
top_cut_by line lines (Some d) h c = record { top = line ∷ c.top; rest = c.rest; directives = d ∷ c.directives; cut = ap (λ x. line ∷ x) c.cut; read = ap₂ (λ x y. x ∷ y) h c.read; ended = c.ended }

pub top_cut : (lines : List (List ℕ)) → IsTopCut lines
top_cut [] = record { top = []; rest = []; directives = []; cut = refl; read = refl; ended = tt }
top_cut (line ∷ lines) = top_cut_by line lines (directive_of line) refl (top_cut lines)

-- what a file gives
pub record HasStructure (lines : List (List ℕ)) : Type 0 where
  pub found : List Line
  pub faults : List Refusal
  pub file : IsFile lines found faults

pub structure_of : (lines : List (List ℕ)) → HasStructure lines
structure_of lines =
    let c = top_cut lines in
    let b = blocks_cut (escape_below Backslash c.directives) (length c.rest) (length c.top) c.rest (omega arith) in
    record {
      found = b.found;
      faults = directive_faults [] c.directives ++ (refused_at R18 (slice_get (numbers_of b.found b.unclosed) most_lines) ++ refused_at R08 b.unclosed);
      file = record { top = c.top; rest = c.rest; directives = c.directives; unclosed = b.unclosed; cut = c.cut; read = c.read; ended = c.ended; blocks = b.blocks; wrong = refl };
    }
