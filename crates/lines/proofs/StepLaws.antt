-- Laws of the steps: each counts one line, and nothing else changes the count.
use Rattle.std.specs.Prelude.{◌≡◌, ℕ, ◌+◌, ◌==◌, Bool, true, false, List, [], ◌∷◌, ◌++◌, Option, Some, None, length, slice_get, if◌then◌else◌, refl}
use Rattle.std.proofs.Common.{◌∙◌}
use Rattle.plain.specs.declared.refusal.Code.TheVariants.{R02, R18}
use Rattle.ascii.specs.Blanks.{trimmed}
use Rattle.lines.specs.Blanks.{continued_part, is_skipped}
use Rattle.lines.specs.Escape.{byte_of}
use Rattle.lines.specs.Directives.{directive_of}
use Rattle.lines.specs.Marks.{marks_of, closes, body_line}
use Rattle.lines.specs.PrivateSteps.{at_position, count_line, with_fault, is_repeated, take_value, refuse_repeated, read_directive, refuse_past_limit, open_heredocs, close_line, join_part, join_line, next_heredoc, close_heredoc, grow_body, read_between, read_at_top_as, read_within, read_body_line, read_at, read_line}
use Rattle.lines.specs.declared.line.Mark.{Mark}
use Rattle.lines.specs.declared.line.Heredoc.{Heredoc}
use Rattle.lines.specs.declared.directives.Directive.{Directive}
use Rattle.lines.specs.declared.directives.Directive.TheVariants.{Escape, Syntax, Check}
use Rattle.lines.specs.declared.state.Seen.{Seen}
use Rattle.lines.specs.declared.state.Pending.{Pending}
use Rattle.lines.specs.declared.state.Unclosed.{Unclosed}
use Rattle.lines.specs.declared.state.Position.{Position}
use Rattle.lines.specs.declared.state.Position.TheVariants.{Top, Between, Within, Bodies}
use Rattle.lines.specs.declared.state.FileState.{FileState}

-- of two readings with one count, whichever a test chooses has it
either_count : (n : ℕ) (a b : FileState) (t : Bool) → a.count ≡ n → b.count ≡ n → (if t then a else b).count ≡ n
either_count n a b true h i = h
either_count n a b false h i = i

refuse_past_limit-count : (r : FileState) (n : ℕ) → (refuse_past_limit r n).count ≡ r.count
refuse_past_limit-count r n = either_count r.count (with_fault r R18 n) r (length r.lines == r.room) refl refl

open_heredocs-count : (r : FileState) (n : ℕ) (text : List ℕ) (ms : List Mark) → (open_heredocs r n text ms).count ≡ r.count
open_heredocs-count r n text [] = refl
open_heredocs-count r n text (m ∷ ms) = refl

close_line-count : (r : FileState) (n : ℕ) (text : List ℕ) → (close_line r n text).count ≡ r.count
close_line-count r n [] = refl
close_line-count r n (c ∷ cs) = open_heredocs-count (refuse_past_limit r n) n (c ∷ cs) (marks_of (c ∷ cs)) ∙ refuse_past_limit-count r n

join_part-count : (r : FileState) (n : ℕ) (before line : List ℕ) (o : Option (List ℕ)) → (join_part r n before line o).count ≡ r.count
join_part-count r n before line None = close_line-count r n (trimmed (before ++ line))
join_part-count r n before line (Some part) = refl

join_line-count : (r : FileState) (n : ℕ) (before line : List ℕ) → (join_line r n before line).count ≡ r.count
join_line-count r n before line = join_part-count r n before line (continued_part (byte_of r.escape) line)

take_value-count : (r : FileState) (d : Directive) → (take_value r d).count ≡ r.count
take_value-count r (Escape (Some e)) = refl
take_value-count r (Escape None) = refl
take_value-count r Syntax = refl
take_value-count r Check = refl

read_directive-count : (r : FileState) (s : Seen) (d : Directive) → (read_directive r s d).count ≡ r.count
read_directive-count r s d = take_value-count (refuse_repeated r s d) d ∙ either_count r.count (with_fault r R02 r.count) r (is_repeated s d) refl refl

next_heredoc-count : (r : FileState) (u : Unclosed) (hs : List Heredoc) (o : Option Mark) → (next_heredoc r u hs o).count ≡ r.count
next_heredoc-count r u hs None = refl
next_heredoc-count r u hs (Some m) = refl

between-count : (r : FileState) (line : List ℕ) → (read_between r line).count ≡ r.count
between-count r line = either_count r.count (at_position r Between) (join_line r r.count [] line) (is_skipped line) refl (join_line-count r r.count [] line)

read_at_top_as-count : (r : FileState) (s : Seen) (line : List ℕ) (o : Option Directive) → (read_at_top_as r s line o).count ≡ r.count
read_at_top_as-count r s line None = between-count r line
read_at_top_as-count r s line (Some d) = read_directive-count r s d

within-count : (r : FileState) (p : Pending) (line : List ℕ) → (read_within r p line).count ≡ r.count
within-count r p line = either_count r.count (at_position r (Within p)) (join_line r p.number p.text line) (is_skipped line) refl (join_line-count r p.number p.text line)

body-count : (r : FileState) (u : Unclosed) (line : List ℕ) → (read_body_line r u line).count ≡ r.count
body-count r u line = either_count r.count (close_heredoc r u) (grow_body r u (body_line u.mark line)) (closes u.mark line)
    (next_heredoc-count r u (u.heredocs ++ (record { mark = u.mark; body = u.body }) ∷ []) (slice_get u.marks (length u.heredocs + 1))) refl

position-count : (r : FileState) (s : Position) (line : List ℕ) → (read_at r s line).count ≡ r.count
position-count r (Top s) line = read_at_top_as-count r s line (directive_of line)
position-count r Between line = between-count r line
position-count r (Within p) line = within-count r p line
position-count r (Bodies u) line = body-count r u line

-- each line is counted once
pub read_line-count : (r : FileState) (line : List ℕ) → (read_line r line).count ≡ r.count + 1
unfolding read_line
read_line-count r line = position-count (count_line r) r.position line
