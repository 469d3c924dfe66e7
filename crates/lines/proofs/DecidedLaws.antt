-- What is wrong with complete blocks decides: what is found wrong below them stands on later lines, so the least fault stays.
use Rattle.std.specs.Prelude.{◌≡◌, ◌≢◌, ◌<◌, ◌≤◌, ℕ, ◌+◌, ◌==◌, Bool, true, false, List, [], ◌∷◌, ◌++◌, Option, Some, None, length, slice_get, if◌then◌else◌, refl}
use Rattle.std.proofs.Common.{◌∙◌, sym, ap, subst, inl, inr, append_assoc, arith}
use Rattle.std.proofs.lemmas.List.{append-nil}
use Rattle.plain.specs.declared.refusal.Code.{Code}
use Rattle.plain.specs.declared.refusal.Code.TheVariants.{R02, R03, R08, R18}
use Rattle.plain.specs.declared.refusal.Refusal.{Refusal}
use Rattle.ascii.specs.Blanks.{trimmed}
use Rattle.lines.specs.Blanks.{continued_part, is_skipped}
use Rattle.lines.specs.Directives.{directive_of}
use Rattle.lines.specs.Escape.{byte_of}
use Rattle.lines.specs.Faults.{refusal, IsAmong, IsBehindNone, IsLeast}
use Rattle.lines.specs.Marks.{marks_of, closes, body_line}
use Rattle.lines.specs.PrivateScan.{IsAtRest}
use Rattle.lines.specs.PrivateSteps.{initial_state, at_position, count_line, with_fault, is_repeated, with_seen, take_value, refuse_repeated, read_directive, refuse_past_limit, complete_line, open_heredocs, close_line, join_part, join_line, next_heredoc, close_heredoc, grow_body, read_between, read_at_top_as, read_within, read_body_line, read_at, read_line, after_lines, end_continuation, refuse_unclosed, end_file}
use Rattle.lines.specs.declared.directives.Directive.{Directive}
use Rattle.lines.specs.declared.directives.Directive.TheVariants.{Escape, Syntax, Check}
use Rattle.lines.specs.declared.line.Heredoc.{Heredoc}
use Rattle.lines.specs.declared.line.Mark.{Mark}
use Rattle.lines.specs.declared.state.FileState.{FileState}
use Rattle.lines.specs.declared.state.Pending.{Pending}
use Rattle.lines.specs.declared.state.Position.{Position}
use Rattle.lines.specs.declared.state.Position.TheVariants.{Top, Between, Within, Bodies}
use Rattle.lines.specs.declared.state.Seen.{Seen}
use Rattle.lines.specs.declared.state.Unclosed.{Unclosed}

-- these faults are those of lines from one number to another
abbrev AreWithin : ℕ → ℕ → List Refusal → Type 0
AreWithin lo hi [] = Unit {0}
AreWithin lo hi (f ∷ fs) = (lo ≤ f.line) × (f.line ≤ hi) × AreWithin lo hi fs

-- and so is the logical line that isn't complete
abbrev PlaceWithin : ℕ → ℕ → Position → Type 0
PlaceWithin lo hi (Top seen) = Unit {0}
PlaceWithin lo hi Between = Unit {0}
PlaceWithin lo hi (Within p) = (lo ≤ p.number) × (p.number ≤ hi)
PlaceWithin lo hi (Bodies u) = (lo ≤ u.number) × (u.number ≤ hi)

-- a state at the line of number `hi` has more faults than these, of such lines
record HasMore (lo hi : ℕ) (fs : List Refusal) (s : FileState) : Type 0 where
  more : List Refusal
  is : s.faults ≡ fs ++ more
  within : AreWithin lo hi more
  count : s.count ≡ hi

record Adds (lo hi : ℕ) (fs : List Refusal) (s : FileState) : Type 0 where
  faults : HasMore lo hi fs s
  place : PlaceWithin lo hi s.position

within_more : (lo hi : ℕ) (fs : List Refusal) (f : Refusal) → AreWithin lo hi fs → lo ≤ f.line → f.line ≤ hi → AreWithin lo hi (fs ++ f ∷ [])
within_more lo hi [] f h l u = (l, u, tt)
within_more lo hi (g ∷ fs) f h l u = (h.0, h.1, within_more lo hi fs f h.2 l u)

within_on : (lo hi top : ℕ) (fs : List Refusal) → hi ≤ top → AreWithin lo hi fs → AreWithin lo top fs
within_on lo hi top [] l h = tt
within_on lo hi top (f ∷ fs) l h = let u = h.1 in (h.0, omega arith, within_on lo hi top fs l h.2)

place_on : (lo hi top : ℕ) (p : Position) → hi ≤ top → PlaceWithin lo hi p → PlaceWithin lo top p
place_on lo hi top (Top seen) l h = tt
place_on lo hi top Between l h = tt
place_on lo hi top (Within p) l h = let u = h.1 in (h.0, omega arith)
place_on lo hi top (Bodies p) l h = let u = h.1 in (h.0, omega arith)

fault_more : (lo hi : ℕ) (fs : List Refusal) (s : FileState) (c : Code) (n : ℕ) → HasMore lo hi fs s → lo ≤ n → n ≤ hi → HasMore lo hi fs (with_fault s c n)
fault_more lo hi fs s c n h l u = record {
  more = h.more ++ refusal c n ∷ [];
  is = ap (λ (x : List Refusal). x ++ refusal c n ∷ []) h.is ∙ append_assoc fs h.more (refusal c n ∷ []);
  within = within_more lo hi h.more (refusal c n) h.within l u;
  count = h.count;
}

either_more : (lo hi : ℕ) (fs : List Refusal) (a b : FileState) (t : Bool) → HasMore lo hi fs a → HasMore lo hi fs b → HasMore lo hi fs (if t then a else b)
either_more lo hi fs a b true h i = h
either_more lo hi fs a b false h i = i

either_adds : (lo hi : ℕ) (fs : List Refusal) (a b : FileState) (t : Bool) → Adds lo hi fs a → Adds lo hi fs b → Adds lo hi fs (if t then a else b)
either_adds lo hi fs a b true h i = h
either_adds lo hi fs a b false h i = i

limit_more : (lo hi : ℕ) (fs : List Refusal) (s : FileState) (n : ℕ) → HasMore lo hi fs s → lo ≤ n → n ≤ hi → HasMore lo hi fs (refuse_past_limit s n)
limit_more lo hi fs s n h l u = either_more lo hi fs (with_fault s R18 n) s (length s.lines == s.room) (fault_more lo hi fs s R18 n h l u) h

-- the same at another position, and with more lines
moved_more : (lo hi : ℕ) (fs : List Refusal) (s t : FileState) → t.faults ≡ s.faults → t.count ≡ s.count → HasMore lo hi fs s → HasMore lo hi fs t
moved_more lo hi fs s t e n h = record { more = h.more; is = e ∙ h.is; within = h.within; count = n ∙ h.count }

between_adds : (lo hi : ℕ) (fs : List Refusal) (s : FileState) → HasMore lo hi fs s → Adds lo hi fs (at_position s Between)
between_adds lo hi fs s h = record { faults = moved_more lo hi fs s (at_position s Between) refl refl h; place = tt }

within_adds : (lo hi : ℕ) (fs : List Refusal) (s : FileState) (p : Pending) → HasMore lo hi fs s → lo ≤ p.number → p.number ≤ hi → Adds lo hi fs (at_position s (Within p))
within_adds lo hi fs s p h l u = record { faults = moved_more lo hi fs s (at_position s (Within p)) refl refl h; place = (l, u) }

bodies_adds : (lo hi : ℕ) (fs : List Refusal) (s : FileState) (p : Unclosed) → HasMore lo hi fs s → lo ≤ p.number → p.number ≤ hi → Adds lo hi fs (at_position s (Bodies p))
bodies_adds lo hi fs s p h l u = record { faults = moved_more lo hi fs s (at_position s (Bodies p)) refl refl h; place = (l, u) }

complete_adds : (lo hi : ℕ) (fs : List Refusal) (s : FileState) (n : ℕ) (text : List ℕ) (hs : List Heredoc) → HasMore lo hi fs s → Adds lo hi fs (complete_line s n text hs)
complete_adds lo hi fs s n text hs h = record { faults = moved_more lo hi fs s (complete_line s n text hs) refl refl h; place = tt }

open_adds : (lo hi : ℕ) (fs : List Refusal) (s : FileState) (n : ℕ) (text : List ℕ) (ms : List Mark) → HasMore lo hi fs s → lo ≤ n → n ≤ hi → Adds lo hi fs (open_heredocs s n text ms)
open_adds lo hi fs s n text [] h l u = complete_adds lo hi fs s n text [] h
open_adds lo hi fs s n text (m ∷ ms) h l u = bodies_adds lo hi fs s (record { number = n; text = text; marks = m ∷ ms; heredocs = []; mark = m; body = [] }) h l u

close_adds : (lo hi : ℕ) (fs : List Refusal) (s : FileState) (n : ℕ) (text : List ℕ) → HasMore lo hi fs s → lo ≤ n → n ≤ hi → Adds lo hi fs (close_line s n text)
close_adds lo hi fs s n [] h l u = between_adds lo hi fs s h
close_adds lo hi fs s n (c ∷ cs) h l u = open_adds lo hi fs (refuse_past_limit s n) n (c ∷ cs) (marks_of (c ∷ cs)) (limit_more lo hi fs s n h l u) l u

part_adds : (lo hi : ℕ) (fs : List Refusal) (s : FileState) (n : ℕ) (before line : List ℕ) (o : Option (List ℕ)) → HasMore lo hi fs s → lo ≤ n → n ≤ hi → Adds lo hi fs (join_part s n before line o)
part_adds lo hi fs s n before line None h l u = close_adds lo hi fs s n (trimmed (before ++ line)) h l u
part_adds lo hi fs s n before line (Some part) h l u = within_adds lo hi fs s (record { number = n; text = before ++ part }) h l u

join_adds : (lo hi : ℕ) (fs : List Refusal) (s : FileState) (n : ℕ) (before line : List ℕ) → HasMore lo hi fs s → lo ≤ n → n ≤ hi → Adds lo hi fs (join_line s n before line)
join_adds lo hi fs s n before line h l u = part_adds lo hi fs s n before line (continued_part (byte_of s.escape) line) h l u

next_adds : (lo hi : ℕ) (fs : List Refusal) (s : FileState) (p : Unclosed) (hs : List Heredoc) (o : Option Mark) → HasMore lo hi fs s → lo ≤ p.number → p.number ≤ hi → Adds lo hi fs (next_heredoc s p hs o)
next_adds lo hi fs s p hs None h l u = complete_adds lo hi fs s p.number p.text hs h
next_adds lo hi fs s p hs (Some m) h l u = bodies_adds lo hi fs s (record p { heredocs = hs; mark = m; body = [] }) h l u

kept_adds : (lo hi : ℕ) (fs : List Refusal) (s : FileState) (line : List ℕ) → lo ≤ hi → HasMore lo hi fs s → Adds lo hi fs (read_between s line)
kept_adds lo hi fs s line l h =
    let n = h.count in
    either_adds lo hi fs (at_position s Between) (join_line s s.count [] line) (is_skipped line) (between_adds lo hi fs s h) (join_adds lo hi fs s s.count [] line h (omega arith) (omega arith))

value_more : (lo hi : ℕ) (fs : List Refusal) (s : FileState) (d : Directive) → lo ≤ hi → HasMore lo hi fs s → HasMore lo hi fs (take_value s d)
value_more lo hi fs s (Escape (Some e)) l h = moved_more lo hi fs s (record s { escape = e }) refl refl h
value_more lo hi fs s (Escape None) l h = let n = h.count in fault_more lo hi fs s R03 s.count h (omega arith) (omega arith)
value_more lo hi fs s Syntax l h = h
value_more lo hi fs s Check l h = h

repeated_more : (lo hi : ℕ) (fs : List Refusal) (s : FileState) (b : Bool) → lo ≤ hi → HasMore lo hi fs s → HasMore lo hi fs (if b then with_fault s R02 s.count else s)
repeated_more lo hi fs s b l h = let n = h.count in either_more lo hi fs (with_fault s R02 s.count) s b (fault_more lo hi fs s R02 s.count h (omega arith) (omega arith)) h

directive_adds : (lo hi : ℕ) (fs : List Refusal) (s : FileState) (seen : Seen) (d : Directive) → lo ≤ hi → HasMore lo hi fs s → Adds lo hi fs (read_directive s seen d)
directive_adds lo hi fs s seen d l h =
    let t = take_value (refuse_repeated s seen d) d in
    record { faults = moved_more lo hi fs t (at_position t (Top (with_seen seen d))) refl refl (value_more lo hi fs (refuse_repeated s seen d) d l (repeated_more lo hi fs s (is_repeated seen d) l h)); place = tt }

top_adds : (lo hi : ℕ) (fs : List Refusal) (s : FileState) (seen : Seen) (line : List ℕ) (o : Option Directive) → lo ≤ hi → HasMore lo hi fs s → Adds lo hi fs (read_at_top_as s seen line o)
top_adds lo hi fs s seen line None l h = kept_adds lo hi fs s line l h
top_adds lo hi fs s seen line (Some d) l h = directive_adds lo hi fs s seen d l h

own_adds : (lo hi : ℕ) (fs : List Refusal) (s : FileState) (p : Pending) (line : List ℕ) → HasMore lo hi fs s → lo ≤ p.number → p.number ≤ hi → Adds lo hi fs (read_within s p line)
own_adds lo hi fs s p line h l u =
    either_adds lo hi fs (at_position s (Within p)) (join_line s p.number p.text line) (is_skipped line) (within_adds lo hi fs s p h l u) (join_adds lo hi fs s p.number p.text line h l u)

body_adds : (lo hi : ℕ) (fs : List Refusal) (s : FileState) (p : Unclosed) (line : List ℕ) → HasMore lo hi fs s → lo ≤ p.number → p.number ≤ hi → Adds lo hi fs (read_body_line s p line)
body_adds lo hi fs s p line h l u =
    either_adds lo hi fs (close_heredoc s p) (grow_body s p (body_line p.mark line)) (closes p.mark line)
    (next_adds lo hi fs s p (p.heredocs ++ (record { mark = p.mark; body = p.body }) ∷ []) (slice_get p.marks (length p.heredocs + 1)) h l u)
    (bodies_adds lo hi fs s (record p { body = p.body ++ (body_line p.mark line ++ 10 ∷ []) }) h l u)

at_adds : (lo hi : ℕ) (fs : List Refusal) (s : FileState) (p : Position) (line : List ℕ) → lo ≤ hi → HasMore lo hi fs s → PlaceWithin lo hi p → Adds lo hi fs (read_at s p line)
at_adds lo hi fs s (Top seen) line l h k = top_adds lo hi fs s seen line (directive_of line) l h
at_adds lo hi fs s Between line l h k = kept_adds lo hi fs s line l h
at_adds lo hi fs s (Within p) line l h k = own_adds lo hi fs s p line h k.0 k.1
at_adds lo hi fs s (Bodies p) line l h k = body_adds lo hi fs s p line h k.0 k.1

counted : (lo hi : ℕ) (fs : List Refusal) (s : FileState) → HasMore lo hi fs s → HasMore lo (hi + 1) fs (count_line s)
counted lo hi fs s h = record { more = h.more; is = h.is; within = within_on lo hi (hi + 1) h.more (omega arith) h.within; count = ap (λ n. n + 1) h.count }

line_adds : (lo hi : ℕ) (fs : List Refusal) (s : FileState) (line : List ℕ) → lo ≤ hi + 1 → Adds lo hi fs s → Adds lo (hi + 1) fs (read_line s line)
unfolding read_line
line_adds lo hi fs s line l h =
    at_adds lo (hi + 1) fs (count_line s) s.position line l (counted lo hi fs s h.faults) (place_on lo hi (hi + 1) s.position (omega arith) h.place)

lines_add : (lines : List (List ℕ)) (lo hi : ℕ) (fs : List Refusal) (s : FileState) → lo ≤ hi + 1 → Adds lo hi fs s → Adds lo (hi + length lines) fs (after_lines s lines)
lines_add [] lo hi fs s l h = subst (λ n. Adds lo n fs s) (let e : hi ≡ hi + 0 = omega arith in e) h
lines_add (line ∷ lines) lo hi fs s l h =
    subst (λ n. Adds lo n fs (after_lines (read_line s line) lines)) (let e : (hi + 1) + length lines ≡ hi + length (line ∷ lines) = omega arith in e)
    (lines_add lines lo (hi + 1) fs (read_line s line) (omega arith) (line_adds lo hi fs s line l h))

-- and so of the end of the text

stopped_adds : (lo hi : ℕ) (fs : List Refusal) (s : FileState) (p : Position) → HasMore lo hi fs s → s.position ≡ p → PlaceWithin lo hi p → Adds lo hi fs (end_continuation s p)
stopped_adds lo hi fs s (Within p) h e k = close_adds lo hi fs s p.number (trimmed p.text) h k.0 k.1
stopped_adds lo hi fs s (Top seen) h e k = record { faults = h; place = subst (PlaceWithin lo hi) (sym e) k }
stopped_adds lo hi fs s Between h e k = record { faults = h; place = subst (PlaceWithin lo hi) (sym e) k }
stopped_adds lo hi fs s (Bodies p) h e k = record { faults = h; place = subst (PlaceWithin lo hi) (sym e) k }

unclosed_more : (lo hi : ℕ) (fs : List Refusal) (s : FileState) (p : Position) → HasMore lo hi fs s → PlaceWithin lo hi p → HasMore lo hi fs (refuse_unclosed s p)
unclosed_more lo hi fs s (Bodies p) h k = fault_more lo hi fs s R08 p.number h k.0 k.1
unclosed_more lo hi fs s (Top seen) h k = h
unclosed_more lo hi fs s Between h k = h
unclosed_more lo hi fs s (Within p) h k = h

end_more : (lo hi : ℕ) (fs : List Refusal) (s : FileState) → Adds lo hi fs s → HasMore lo hi fs (end_file s)
end_more lo hi fs s h =
    let t = end_continuation s s.position in
    let a : Adds lo hi fs t = stopped_adds lo hi fs s s.position h.faults refl h.place in
    unclosed_more lo hi fs t t.position a.faults a.place

-- what decides

among_within : (lo hi : ℕ) (f : Refusal) (fs : List Refusal) → AreWithin lo hi fs → IsAmong f fs → f.line ≤ hi
among_within lo hi f [] h i = absurd i
among_within lo hi f (g ∷ fs) h (inl e) = let u = h.1 in let l = ap (λ (r : Refusal). r.line) e in omega arith
among_within lo hi f (g ∷ fs) h (inr i) = among_within lo hi f fs h.2 i

among_front : (f : Refusal) (fs gs : List Refusal) → IsAmong f fs → IsAmong f (fs ++ gs)
among_front f [] gs h = absurd h
among_front f (x ∷ fs) gs (inl e) = inl e
among_front f (x ∷ fs) gs (inr h) = inr (among_front f fs gs h)

before_all : (lo hi : ℕ) (f : Refusal) (gs : List Refusal) → f.line < lo → AreWithin lo hi gs → IsBehindNone f gs
before_all lo hi f [] l h = tt
before_all lo hi f (g ∷ gs) l h = let m = h.0 in (inl (omega arith), before_all lo hi f gs l h.2)

behind_none : (f : Refusal) (fs gs : List Refusal) → IsBehindNone f fs → IsBehindNone f gs → IsBehindNone f (fs ++ gs)
behind_none f [] gs h i = i
behind_none f (x ∷ fs) gs h i = (h.0, behind_none f fs gs h.1 i)

-- all that is wrong with lines stands on one of them
low : (lines : List (List ℕ)) → HasMore 0 (0 + length lines) [] (after_lines initial_state lines)
low lines =
    (lines_add lines 0 0 [] initial_state (omega arith) (record { faults = record { more = []; is = refl; within = tt; count = refl }; place = tt })).faults

rest_place : (lo hi : ℕ) (p : Position) → IsAtRest p → PlaceWithin lo hi p
rest_place lo hi (Top seen) h = tt
rest_place lo hi Between h = tt
rest_place lo hi (Within p) h = absurd h
rest_place lo hi (Bodies p) h = absurd h

rest_adds : (r : FileState) → IsAtRest r.position → Adds (r.count + 1) r.count r.faults r
rest_adds r h = record { faults = record { more = []; is = sym (append-nil r.faults); within = tt; count = refl }; place = rest_place (r.count + 1) r.count r.position h }

pub decided : (lines rest : List (List ℕ)) (f : Refusal) → IsAtRest (after_lines initial_state lines).position → IsLeast (after_lines initial_state lines).faults f
    → IsLeast (end_file (after_lines (after_lines initial_state lines) rest)).faults f
decided lines rest f at least =
    let r = after_lines initial_state lines in
    let below = low lines in
    let here : f.line ≤ r.count = let n = below.count in let a = among_within 0 (0 + length lines) f below.more below.within (subst (IsAmong f) below.is least.0) in omega arith in
    let later = end_more (r.count + 1) (r.count + length rest) r.faults (after_lines r rest) (lines_add rest (r.count + 1) r.count r.faults r (omega arith) (rest_adds r at)) in
    subst (λ (fs : List Refusal). IsLeast fs f) (sym later.is)
    (among_front f r.faults later.more least.0, behind_none f r.faults later.more least.1 (before_all (r.count + 1) (r.count + length rest) f later.more (omega arith) later.within))

not_none : (fs gs : List Refusal) → fs ≢ [] → fs ++ gs ≢ []
not_none [] gs h = absurd (h refl)
not_none (f ∷ fs) gs h = λ e. cc

-- and something stays wrong
pub wrong_stays : (r : FileState) (rest : List (List ℕ)) → IsAtRest r.position → r.faults ≢ []
    → (end_continuation (after_lines r rest) (after_lines r rest).position).faults ≢ []
wrong_stays r rest at wrong =
    let s = after_lines r rest in
    let a = lines_add rest (r.count + 1) r.count r.faults r (omega arith) (rest_adds r at) in
    let t = (stopped_adds (r.count + 1) (r.count + length rest) r.faults s s.position a.faults refl a.place).faults in
    λ e. not_none r.faults t.more wrong (sym t.is ∙ e)
