-- No step changes how many logical lines there may be.
use Rattle.std.specs.Prelude.{◌≡◌, ℕ, ◌+◌, ◌==◌, Bool, true, false, List, [], ◌∷◌, ◌++◌, Option, Some, None, length, slice_get, if◌then◌else◌, refl}
use Rattle.std.proofs.Common.{◌∙◌}
use Rattle.plain.specs.declared.refusal.Code.TheVariants.{R02, R18}
use Rattle.ascii.specs.Blanks.{trimmed}
use Rattle.lines.specs.Blanks.{continued_part, is_skipped}
use Rattle.lines.specs.Escape.{byte_of}
use Rattle.lines.specs.Directives.{directive_of}
use Rattle.lines.specs.Marks.{marks_of, closes, body_line}
use Rattle.lines.specs.PrivateSteps.{at_position, count_line, with_fault, is_repeated, take_value, refuse_repeated, read_directive, refuse_past_limit, open_heredocs, close_line, join_part, join_line, next_heredoc, close_heredoc, grow_body, read_between, read_at_top_as, read_within, read_body_line, read_at, read_line, after_lines}
use Rattle.lines.specs.declared.line.Mark.{Mark}
use Rattle.lines.specs.declared.line.Heredoc.{Heredoc}
use Rattle.lines.specs.declared.directives.Directive.{Directive}
use Rattle.lines.specs.declared.directives.Directive.TheVariants.{Escape, Syntax, Check}
use Rattle.lines.specs.declared.state.Seen.{Seen}
use Rattle.lines.specs.declared.state.Pending.{Pending}
use Rattle.lines.specs.declared.state.Unclosed.{Unclosed}
use Rattle.lines.specs.declared.state.Position.{Position}
use Rattle.lines.specs.declared.state.Position.TheVariants.{Top, Between, Within, Bodies}
use Rattle.lines.specs.declared.state.FileState.{FileState}

-- of two readings with one room, whichever a test chooses has it
either_room : (n : ℕ) (a b : FileState) (t : Bool) → a.room ≡ n → b.room ≡ n → (if t then a else b).room ≡ n
either_room n a b true h i = h
either_room n a b false h i = i

refuse_past_limit-room : (r : FileState) (n : ℕ) → (refuse_past_limit r n).room ≡ r.room
refuse_past_limit-room r n = either_room r.room (with_fault r R18 n) r (length r.lines == r.room) refl refl

open_heredocs-room : (r : FileState) (n : ℕ) (text : List ℕ) (ms : List Mark) → (open_heredocs r n text ms).room ≡ r.room
open_heredocs-room r n text [] = refl
open_heredocs-room r n text (m ∷ ms) = refl

close_line-room : (r : FileState) (n : ℕ) (text : List ℕ) → (close_line r n text).room ≡ r.room
close_line-room r n [] = refl
close_line-room r n (c ∷ cs) = open_heredocs-room (refuse_past_limit r n) n (c ∷ cs) (marks_of (c ∷ cs)) ∙ refuse_past_limit-room r n

join_part-room : (r : FileState) (n : ℕ) (before line : List ℕ) (o : Option (List ℕ)) → (join_part r n before line o).room ≡ r.room
join_part-room r n before line None = close_line-room r n (trimmed (before ++ line))
join_part-room r n before line (Some part) = refl

join_line-room : (r : FileState) (n : ℕ) (before line : List ℕ) → (join_line r n before line).room ≡ r.room
join_line-room r n before line = join_part-room r n before line (continued_part (byte_of r.escape) line)

take_value-room : (r : FileState) (d : Directive) → (take_value r d).room ≡ r.room
take_value-room r (Escape (Some e)) = refl
take_value-room r (Escape None) = refl
take_value-room r Syntax = refl
take_value-room r Check = refl

read_directive-room : (r : FileState) (s : Seen) (d : Directive) → (read_directive r s d).room ≡ r.room
read_directive-room r s d = take_value-room (refuse_repeated r s d) d ∙ either_room r.room (with_fault r R02 r.count) r (is_repeated s d) refl refl

next_heredoc-room : (r : FileState) (u : Unclosed) (hs : List Heredoc) (o : Option Mark) → (next_heredoc r u hs o).room ≡ r.room
next_heredoc-room r u hs None = refl
next_heredoc-room r u hs (Some m) = refl

between-room : (r : FileState) (line : List ℕ) → (read_between r line).room ≡ r.room
between-room r line = either_room r.room (at_position r Between) (join_line r r.count [] line) (is_skipped line) refl (join_line-room r r.count [] line)

read_at_top_as-room : (r : FileState) (s : Seen) (line : List ℕ) (o : Option Directive) → (read_at_top_as r s line o).room ≡ r.room
read_at_top_as-room r s line None = between-room r line
read_at_top_as-room r s line (Some d) = read_directive-room r s d

within-room : (r : FileState) (p : Pending) (line : List ℕ) → (read_within r p line).room ≡ r.room
within-room r p line = either_room r.room (at_position r (Within p)) (join_line r p.number p.text line) (is_skipped line) refl (join_line-room r p.number p.text line)

body-room : (r : FileState) (u : Unclosed) (line : List ℕ) → (read_body_line r u line).room ≡ r.room
body-room r u line = either_room r.room (close_heredoc r u) (grow_body r u (body_line u.mark line)) (closes u.mark line)
    (next_heredoc-room r u (u.heredocs ++ (record { mark = u.mark; body = u.body }) ∷ []) (slice_get u.marks (length u.heredocs + 1))) refl

position-room : (r : FileState) (s : Position) (line : List ℕ) → (read_at r s line).room ≡ r.room
position-room r (Top s) line = read_at_top_as-room r s line (directive_of line)
position-room r Between line = between-room r line
position-room r (Within p) line = within-room r p line
position-room r (Bodies u) line = body-room r u line

pub read_line-room : (r : FileState) (line : List ℕ) → (read_line r line).room ≡ r.room
unfolding read_line
read_line-room r line = position-room (count_line r) r.position line

pub after_lines-room : (r : FileState) (lines : List (List ℕ)) → (after_lines r lines).room ≡ r.room
after_lines-room r [] = refl
after_lines-room r (line ∷ lines) = after_lines-room (read_line r line) lines ∙ read_line-room r line
