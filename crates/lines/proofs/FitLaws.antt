-- What holds of each state that reading reaches, and what a line that ends inside a logical line leaves as it was.
use Rattle.std.specs.Prelude.{◌≡◌, ◌<◌, ◌≤◌, ℕ, ◌+◌, ◌==◌, Bool, true, false, List, [], ◌∷◌, ◌++◌, Option, Some, None, length, slice_get, if◌then◌else◌, refl}
use Rattle.std.proofs.Common.{◌∙◌, sym, ap, subst, arith}
use Rattle.std.proofs.lemmas.Bool.Decides.{nat_tests}
use Rattle.std.proofs.lemmas.List.{length-append}
use Rattle.plain.specs.declared.refusal.Code.TheVariants.{R02, R03, R18}
use Rattle.plain.specs.declared.refusal.Refusal.{Refusal}
use Rattle.ascii.specs.Blanks.{trimmed}
use Rattle.lines.specs.Blanks.{continued_part, is_skipped}
use Rattle.lines.specs.Escape.{byte_of}
use Rattle.lines.specs.Directives.{directive_of}
use Rattle.lines.specs.Marks.{marks_of, closes, body_line}
use Rattle.lines.specs.PrivateScan.{state_at, position_of, FitsAt, Fits, IsInsideAt, IsInside}
use Rattle.lines.specs.PrivateSteps.{at_position, count_line, with_fault, is_repeated, take_value, refuse_repeated, read_directive, refuse_past_limit, complete_line, open_heredocs, close_line, join_part, join_line, next_heredoc, close_heredoc, grow_body, read_between, read_at_top_as, read_within, read_body_line, read_at, read_line, after_lines}
use Rattle.lines.specs.declared.line.Line.{Line}
use Rattle.lines.specs.declared.line.Mark.{Mark}
use Rattle.lines.specs.declared.line.Heredoc.{Heredoc}
use Rattle.lines.specs.declared.directives.Directive.{Directive}
use Rattle.lines.specs.declared.directives.Directive.TheVariants.{Escape, Syntax, Check}
use Rattle.lines.specs.declared.scan.Place.{Place}
use Rattle.lines.specs.declared.state.Seen.{Seen}
use Rattle.lines.specs.declared.state.Pending.{Pending}
use Rattle.lines.specs.declared.state.Unclosed.{Unclosed}
use Rattle.lines.specs.declared.state.Position.{Position}
use Rattle.lines.specs.declared.state.Position.TheVariants.{Top, Between, Within, Bodies}
use Rattle.lines.specs.declared.state.FileState.{FileState}

-- there are no more lines than there may be, if nothing is wrong
abbrev HasRoom : FileState → Type 0
HasRoom s = s.faults ≡ [] → length s.lines ≤ s.room

-- there may be one more
abbrev HasMoreRoom : FileState → Type 0
HasMoreRoom s = s.faults ≡ [] → length s.lines < s.room

-- a line that ends inside a logical line has left the lines as they were, and inside the instruction itself what is wrong too
abbrev pub LeavesAt : FileState → FileState → Position → Type 0
LeavesAt before s (Top seen) = Unit {0}
LeavesAt before s Between = Unit {0}
LeavesAt before s (Within p) = (s.lines ≡ before.lines) × (s.faults ≡ before.faults)
LeavesAt before s (Bodies u) = s.lines ≡ before.lines

pub record IsStep (before s : FileState) : Type 0 where
  pub room : HasRoom s
  pub fits : FitsAt s s.position
  pub leaves : LeavesAt before s s.position

either_step : (r a b : FileState) (t : Bool) → IsStep r a → IsStep r b → IsStep r (if t then a else b)
either_step r a b true h i = h
either_step r a b false h i = i

-- no list with an element after it is empty
pub not_nil : (fs : List Refusal) (f : Refusal) → fs ++ f ∷ [] ≡ [] → ⊥
not_nil [] f e = cc
not_nil (g ∷ fs) f e = cc

refused_by : (r : FileState) (n : ℕ) (b : Bool) → (length r.lines == r.room) ≡ b → HasRoom r → HasMoreRoom (if b then with_fault r R18 n else r)
refused_by r n true e h = λ fine. absurd (not_nil r.faults (record { code = R18; line = n }) fine)
refused_by r n false e h = λ fine. let few = h fine in grind (arith, nat_tests)

refused_room : (r : FileState) (n : ℕ) → HasRoom r → HasMoreRoom (refuse_past_limit r n)
refused_room r n h = refused_by r n (length r.lines == r.room) refl h

either_lines : (before : List Line) (a b : FileState) (t : Bool) → a.lines ≡ before → b.lines ≡ before → (if t then a else b).lines ≡ before
either_lines before a b true h i = h
either_lines before a b false h i = i

refused_lines : (r : FileState) (n : ℕ) → (refuse_past_limit r n).lines ≡ r.lines
refused_lines r n = either_lines r.lines (with_fault r R18 n) r (length r.lines == r.room) refl refl

complete_step : (r q : FileState) (n : ℕ) (text : List ℕ) (hs : List Heredoc) → HasMoreRoom q → IsStep r (complete_line q n text hs)
complete_step r q n text hs h = record {
  room = λ fine. omega (arith, h fine, length-append q.lines ((record { number = n; text = text; heredocs = hs; escape = q.escape }) ∷ []));
  fits = tt;
  leaves = tt;
}

open_step : (r q : FileState) (n : ℕ) (text : List ℕ) (ms : List Mark) → q.lines ≡ r.lines → HasMoreRoom q → IsStep r (open_heredocs q n text ms)
open_step r q n text [] e h = complete_step r q n text [] h
open_step r q n text (m ∷ ms) e h = record { room = λ fine. omega (arith, h fine); fits = (refl, h); leaves = e }

between_step : (r : FileState) → HasRoom r → IsStep r (at_position r Between)
between_step r h = record { room = h; fits = tt; leaves = tt }

within_step : (r : FileState) (p : Pending) → HasRoom r → IsStep r (at_position r (Within p))
within_step r p h = record { room = h; fits = tt; leaves = (refl, refl) }

close_step : (r : FileState) (n : ℕ) (text : List ℕ) → HasRoom r → IsStep r (close_line r n text)
close_step r n [] h = between_step r h
close_step r n (c ∷ cs) h = open_step r (refuse_past_limit r n) n (c ∷ cs) (marks_of (c ∷ cs)) (refused_lines r n) (refused_room r n h)

part_step : (r : FileState) (n : ℕ) (before line : List ℕ) (o : Option (List ℕ)) → HasRoom r → IsStep r (join_part r n before line o)
part_step r n before line None h = close_step r n (trimmed (before ++ line)) h
part_step r n before line (Some part) h = within_step r (record { number = n; text = before ++ part }) h

join_step : (r : FileState) (n : ℕ) (before line : List ℕ) → HasRoom r → IsStep r (join_line r n before line)
join_step r n before line h = part_step r n before line (continued_part (byte_of r.escape) line) h

next_step : (r : FileState) (u : Unclosed) (hs : List Heredoc) (o : Option Mark) → slice_get u.marks (length hs) ≡ o → HasMoreRoom r → IsStep r (next_heredoc r u hs o)
next_step r u hs None e h = complete_step r r u.number u.text hs h
next_step r u hs (Some m) e h = record { room = λ fine. omega (arith, h fine); fits = (e, h); leaves = refl }

kept_step : (r : FileState) (line : List ℕ) → HasRoom r → IsStep r (read_between r line)
kept_step r line h = either_step r (at_position r Between) (join_line r r.count [] line) (is_skipped line) (between_step r h) (join_step r r.count [] line h)

-- a directive adds no line
value_room : (r : FileState) (d : Directive) → HasRoom r → HasRoom (take_value r d)
value_room r (Escape (Some e)) h = h
value_room r (Escape None) h = λ fine. absurd (not_nil r.faults (record { code = R03; line = r.count }) fine)
value_room r Syntax h = h
value_room r Check h = h

repeated_by : (r : FileState) (b : Bool) → HasRoom r → HasRoom (if b then with_fault r R02 r.count else r)
repeated_by r true h = λ fine. absurd (not_nil r.faults (record { code = R02; line = r.count }) fine)
repeated_by r false h = h

directive_step : (r : FileState) (s : Seen) (d : Directive) → HasRoom r → IsStep r (read_directive r s d)
directive_step r s d h = record { room = value_room (refuse_repeated r s d) d (repeated_by r (is_repeated s d) h); fits = tt; leaves = tt }

top_step : (r : FileState) (s : Seen) (line : List ℕ) (o : Option Directive) → HasRoom r → IsStep r (read_at_top_as r s line o)
top_step r s line None h = kept_step r line h
top_step r s line (Some d) h = directive_step r s d h

own_step : (r : FileState) (p : Pending) (line : List ℕ) → HasRoom r → IsStep r (read_within r p line)
own_step r p line h = either_step r (at_position r (Within p)) (join_line r p.number p.text line) (is_skipped line) (within_step r p h) (join_step r p.number p.text line h)

body_step : (r : FileState) (u : Unclosed) (line : List ℕ) → HasRoom r → FitsAt r (Bodies u) → IsStep r (read_body_line r u line)
body_step r u line h f =
    let hs : List Heredoc = u.heredocs ++ (record { mark = u.mark; body = u.body }) ∷ [] in
    either_step r (close_heredoc r u) (grow_body r u (body_line u.mark line)) (closes u.mark line)
    (next_step r u hs (slice_get u.marks (length u.heredocs + 1)) (ap (slice_get u.marks) (length-append u.heredocs ((record { mark = u.mark; body = u.body }) ∷ []))) f.1)
    (record { room = h; fits = f; leaves = refl })

at_step : (r : FileState) (p : Position) (line : List ℕ) → HasRoom r → FitsAt r p → IsStep r (read_at r p line)
at_step r (Top s) line h f = top_step r s line (directive_of line) h
at_step r Between line h f = kept_step r line h
at_step r (Within p) line h f = own_step r p line h
at_step r (Bodies u) line h f = body_step r u line h f

pub line_step : (r : FileState) (line : List ℕ) → Fits r → IsStep (count_line r) (read_line r line)
unfolding read_line
line_step r line h = at_step (count_line r) r.position line h.0 h.1

pub lines_fit : (r : FileState) (lines : List (List ℕ)) → Fits r → Fits (after_lines r lines)
lines_fit r [] h = h
lines_fit r (line ∷ lines) h = let s = line_step r line h in lines_fit (read_line r line) lines (s.room, s.fits)

place_fit : (place : Place) (room : ℕ) (seen : Option Seen) → FitsAt (state_at place room) (position_of seen)
place_fit place room (Some seen) = tt
place_fit place room None = tt

pub block_fit : (place : Place) (room : ℕ) (lines : List (List ℕ)) → Fits (after_lines (state_at place room) lines)
block_fit place room lines = lines_fit (state_at place room) lines (λ fine. omega arith, place_fit place room place.seen)

-- from the heredocs no line leads into the lines of an instruction

abbrev IsNotWithin : Position → Type 0
IsNotWithin (Top seen) = Unit {0}
IsNotWithin Between = Unit {0}
IsNotWithin (Within p) = ⊥
IsNotWithin (Bodies u) = Unit {0}

either_not : (a b : FileState) (t : Bool) → IsNotWithin a.position → IsNotWithin b.position → IsNotWithin (if t then a else b).position
either_not a b true h i = h
either_not a b false h i = i

next_not : (r : FileState) (u : Unclosed) (hs : List Heredoc) (o : Option Mark) → IsNotWithin (next_heredoc r u hs o).position
next_not r u hs None = tt
next_not r u hs (Some m) = tt

body_not : (r : FileState) (u : Unclosed) (line : List ℕ) → IsNotWithin (read_body_line r u line).position
body_not r u line =
    let hs : List Heredoc = u.heredocs ++ (record { mark = u.mark; body = u.body }) ∷ [] in
    either_not (close_heredoc r u) (grow_body r u (body_line u.mark line)) (closes u.mark line) (next_not r u hs (slice_get u.marks (length u.heredocs + 1))) tt

closing_not : (r : FileState) (u : Unclosed) (line : List ℕ) → r.position ≡ Bodies u → IsNotWithin (read_line r line).position
unfolding read_line
closing_not r u line e = subst (λ (p : Position). IsNotWithin (read_at (count_line r) p line).position) (sym e) (body_not (count_line r) u line)

-- what a block that isn't complete has given

inside_at : (before s : FileState) (p : Position) → LeavesAt before s p → before.lines ≡ [] → before.faults ≡ [] → IsInsideAt s p
inside_at before s (Top seen) h l f = tt
inside_at before s Between h l f = tt
inside_at before s (Within p) h l f = (h.0 ∙ l, h.1 ∙ f)
inside_at before s (Bodies u) h l f = h ∙ l

closing_at : (before s : FileState) (p : Position) → LeavesAt before s p → IsNotWithin p → before.lines ≡ [] → IsInsideAt s p
closing_at before s (Top seen) h n l = tt
closing_at before s Between h n l = tt
closing_at before s (Within p) h n l = absurd n
closing_at before s (Bodies u) h n l = h ∙ l

pub inside_line : (r : FileState) (line : List ℕ) → Fits r → r.lines ≡ [] → r.faults ≡ [] → IsInside (read_line r line)
inside_line r line h l f = inside_at (count_line r) (read_line r line) (read_line r line).position (line_step r line h).leaves l f

pub closing_line : (r : FileState) (u : Unclosed) (line : List ℕ) → Fits r → r.lines ≡ [] → r.position ≡ Bodies u → IsInside (read_line r line)
closing_line r u line h l e = closing_at (count_line r) (read_line r line) (read_line r line).position (line_step r line h).leaves (closing_not r u line e) l
