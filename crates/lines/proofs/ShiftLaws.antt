-- Reading goes the same way below lines that were found above: they stay in front of what is found.
use Rattle.std.specs.Prelude.{◌≡◌, ℕ, ◌+◌, ◌==◌, Bool, true, false, List, [], ◌∷◌, ◌++◌, Option, Some, None, length, slice_get, if◌then◌else◌, refl}
use Rattle.std.proofs.Common.{◌∙◌, ap, append_assoc, arith}
use Rattle.std.proofs.lemmas.Bool.Decides.{nat_tests}
use Rattle.std.proofs.lemmas.List.{length-append}
use Rattle.plain.specs.declared.refusal.Code.{Code}
use Rattle.plain.specs.declared.refusal.Code.TheVariants.{R02, R03, R08, R18}
use Rattle.ascii.specs.Blanks.{trimmed}
use Rattle.lines.specs.Blanks.{continued_part, is_skipped}
use Rattle.lines.specs.Escape.{byte_of}
use Rattle.lines.specs.Directives.{directive_of}
use Rattle.lines.specs.Marks.{marks_of, closes, body_line}
use Rattle.lines.specs.PrivateScan.{below}
use Rattle.lines.specs.PrivateSteps.{at_position, count_line, with_fault, with_seen, is_repeated, take_value, refuse_repeated, read_directive, refuse_past_limit, complete_line, open_heredocs, close_line, join_part, join_line, next_heredoc, close_heredoc, grow_body, read_between, read_at_top_as, read_within, read_body_line, read_at, read_line, after_lines, end_continuation, refuse_unclosed, end_file}
use Rattle.lines.specs.declared.line.Line.{Line}
use Rattle.lines.specs.declared.line.Mark.{Mark}
use Rattle.lines.specs.declared.line.Heredoc.{Heredoc}
use Rattle.lines.specs.declared.directives.Directive.{Directive}
use Rattle.lines.specs.declared.directives.Directive.TheVariants.{Escape, Syntax, Check}
use Rattle.lines.specs.declared.state.Seen.{Seen}
use Rattle.lines.specs.declared.state.Pending.{Pending}
use Rattle.lines.specs.declared.state.Unclosed.{Unclosed}
use Rattle.lines.specs.declared.state.Position.{Position}
use Rattle.lines.specs.declared.state.Position.TheVariants.{Top, Between, Within, Bodies}
use Rattle.lines.specs.declared.state.FileState.{FileState}

room_by : (ls xs : List Line) (n : ℕ) (b : Bool) → (length xs == n) ≡ b → (length (ls ++ xs) == n + length ls) ≡ b
room_by ls xs n true e = let l = length-append ls xs in grind (arith, nat_tests)
room_by ls xs n false e = let l = length-append ls xs in grind (arith, nat_tests)

room_test : (ls xs : List Line) (n : ℕ) → (length (ls ++ xs) == n + length ls) ≡ (length xs == n)
room_test ls xs n = room_by ls xs n (length xs == n) refl

fault-below : (ls : List Line) (s : FileState) (c : Code) (n : ℕ) → with_fault (below ls s) c n ≡ below ls (with_fault s c n)
fault-below ls s c n = refl

either-below : (ls : List Line) (a b x y : FileState) (t : Bool) → a ≡ below ls x → b ≡ below ls y → (if t then a else b) ≡ below ls (if t then x else y)
either-below ls a b x y true h i = h
either-below ls a b x y false h i = i

refuse-below : (ls : List Line) (s : FileState) (n : ℕ) → refuse_past_limit (below ls s) n ≡ below ls (refuse_past_limit s n)
refuse-below ls s n =
    ap (λ b. if b then with_fault (below ls s) R18 n else below ls s) (room_test ls s.lines s.room)
    ∙ either-below ls (with_fault (below ls s) R18 n) (below ls s) (with_fault s R18 n) s (length s.lines == s.room) (fault-below ls s R18 n) refl

complete-below : (ls : List Line) (s : FileState) (n : ℕ) (text : List ℕ) (hs : List Heredoc) → complete_line (below ls s) n text hs ≡ below ls (complete_line s n text hs)
complete-below ls s n text hs =
    ap (λ (x : List Line). record (below ls s) { position = Between; lines = x }) (append_assoc ls s.lines ((record { number = n; text = text; heredocs = hs; escape = s.escape }) ∷ []))

open-below : (ls : List Line) (s : FileState) (n : ℕ) (text : List ℕ) (ms : List Mark) → open_heredocs (below ls s) n text ms ≡ below ls (open_heredocs s n text ms)
open-below ls s n text [] = complete-below ls s n text []
open-below ls s n text (m ∷ ms) = refl

close-below : (ls : List Line) (s : FileState) (n : ℕ) (text : List ℕ) → close_line (below ls s) n text ≡ below ls (close_line s n text)
close-below ls s n [] = refl
close-below ls s n (c ∷ cs) =
    ap (λ (r : FileState). open_heredocs r n (c ∷ cs) (marks_of (c ∷ cs))) (refuse-below ls s n)
    ∙ open-below ls (refuse_past_limit s n) n (c ∷ cs) (marks_of (c ∷ cs))

join-part-below : (ls : List Line) (s : FileState) (n : ℕ) (before line : List ℕ) (o : Option (List ℕ)) → join_part (below ls s) n before line o ≡ below ls (join_part s n before line o)
join-part-below ls s n before line None = close-below ls s n (trimmed (before ++ line))
join-part-below ls s n before line (Some part) = refl

join-below : (ls : List Line) (s : FileState) (n : ℕ) (before line : List ℕ) → join_line (below ls s) n before line ≡ below ls (join_line s n before line)
join-below ls s n before line = join-part-below ls s n before line (continued_part (byte_of s.escape) line)

value-below : (ls : List Line) (s : FileState) (d : Directive) → take_value (below ls s) d ≡ below ls (take_value s d)
value-below ls s (Escape (Some e)) = refl
value-below ls s (Escape None) = fault-below ls s R03 s.count
value-below ls s Syntax = refl
value-below ls s Check = refl

repeated-below : (ls : List Line) (s : FileState) (seen : Seen) (d : Directive) → refuse_repeated (below ls s) seen d ≡ below ls (refuse_repeated s seen d)
repeated-below ls s seen d = either-below ls (with_fault (below ls s) R02 s.count) (below ls s) (with_fault s R02 s.count) s (is_repeated seen d) (fault-below ls s R02 s.count) refl

directive-below : (ls : List Line) (s : FileState) (seen : Seen) (d : Directive) → read_directive (below ls s) seen d ≡ below ls (read_directive s seen d)
directive-below ls s seen d =
    ap (λ (r : FileState). at_position (take_value r d) (Top (with_seen seen d))) (repeated-below ls s seen d)
    ∙ ap (λ (r : FileState). at_position r (Top (with_seen seen d))) (value-below ls (refuse_repeated s seen d) d)

next-below : (ls : List Line) (s : FileState) (u : Unclosed) (hs : List Heredoc) (o : Option Mark) → next_heredoc (below ls s) u hs o ≡ below ls (next_heredoc s u hs o)
next-below ls s u hs None = complete-below ls s u.number u.text hs
next-below ls s u hs (Some m) = refl

between-below : (ls : List Line) (s : FileState) (line : List ℕ) → read_between (below ls s) line ≡ below ls (read_between s line)
between-below ls s line =
    either-below ls (at_position (below ls s) Between) (join_line (below ls s) s.count [] line) (at_position s Between) (join_line s s.count [] line) (is_skipped line) refl (join-below ls s s.count [] line)

top-below : (ls : List Line) (s : FileState) (seen : Seen) (line : List ℕ) (o : Option Directive) → read_at_top_as (below ls s) seen line o ≡ below ls (read_at_top_as s seen line o)
top-below ls s seen line None = between-below ls s line
top-below ls s seen line (Some d) = directive-below ls s seen d

within-below : (ls : List Line) (s : FileState) (p : Pending) (line : List ℕ) → read_within (below ls s) p line ≡ below ls (read_within s p line)
within-below ls s p line =
    either-below ls (at_position (below ls s) (Within p)) (join_line (below ls s) p.number p.text line) (at_position s (Within p)) (join_line s p.number p.text line) (is_skipped line) refl (join-below ls s p.number p.text line)

body-below : (ls : List Line) (s : FileState) (u : Unclosed) (line : List ℕ) → read_body_line (below ls s) u line ≡ below ls (read_body_line s u line)
body-below ls s u line =
    either-below ls (close_heredoc (below ls s) u) (grow_body (below ls s) u (body_line u.mark line)) (close_heredoc s u) (grow_body s u (body_line u.mark line)) (closes u.mark line)
    (next-below ls s u (u.heredocs ++ (record { mark = u.mark; body = u.body }) ∷ []) (slice_get u.marks (length u.heredocs + 1))) refl

at-below : (ls : List Line) (s : FileState) (p : Position) (line : List ℕ) → read_at (below ls s) p line ≡ below ls (read_at s p line)
at-below ls s (Top seen) line = top-below ls s seen line (directive_of line)
at-below ls s Between line = between-below ls s line
at-below ls s (Within p) line = within-below ls s p line
at-below ls s (Bodies u) line = body-below ls s u line

read_line_below : (ls : List Line) (s : FileState) (line : List ℕ) → read_line (below ls s) line ≡ below ls (read_line s line)
unfolding read_line
read_line_below ls s line = at-below ls (count_line s) s.position line

-- so of many lines
pub after_lines_below : (ls : List Line) (s : FileState) (lines : List (List ℕ)) → after_lines (below ls s) lines ≡ below ls (after_lines s lines)
after_lines_below ls s [] = refl
after_lines_below ls s (line ∷ lines) = ap (λ (r : FileState). after_lines r lines) (read_line_below ls s line) ∙ after_lines_below ls (read_line s line) lines

pub stopped_below : (ls : List Line) (s : FileState) (p : Position) → end_continuation (below ls s) p ≡ below ls (end_continuation s p)
stopped_below ls s (Within p) = close-below ls s p.number (trimmed p.text)
stopped_below ls s (Top seen) = refl
stopped_below ls s Between = refl
stopped_below ls s (Bodies u) = refl

unclosed-below : (ls : List Line) (s : FileState) (p : Position) → refuse_unclosed (below ls s) p ≡ below ls (refuse_unclosed s p)
unclosed-below ls s (Bodies u) = fault-below ls s R08 u.number
unclosed-below ls s (Top seen) = refl
unclosed-below ls s Between = refl
unclosed-below ls s (Within p) = refl

pub end_file_below : (ls : List Line) (s : FileState) → end_file (below ls s) ≡ below ls (end_file s)
end_file_below ls s =
    ap (λ (r : FileState). refuse_unclosed r r.position) (stopped_below ls s s.position)
    ∙ unclosed-below ls (end_continuation s s.position) (end_continuation s s.position).position
