-- Reading on only adds lines below those that were found, so what is ready of a text stays; and each text has lines that are ready.
use Rattle.std.specs.Prelude.{◌≡◌, ◌==◌, ◌⊎◌, ℕ, ◌+◌, Bool, true, false, List, [], ◌∷◌, ◌++◌, Option, Some, None, length, drop, slice_get, nat_le, if◌then◌else◌, refl}
use Rattle.std.specs.Str.Lines.{lines}
use Rattle.std.specs.Str.Lossy.{utf8_valid_len, utf8_error_len}
use Rattle.std.proofs.Common.{◌∙◌, sym, ap, subst, inl, inr, append_assoc}
use Rattle.std.proofs.lemmas.List.{append-nil}
use Rattle.plain.specs.Limits.{most_dockerfile_bytes}
use Rattle.plain.specs.declared.refusal.Code.TheVariants.{R02, R18}
use Rattle.plain.specs.declared.refusal.Refusal.{Refusal}
use Rattle.ascii.specs.Blanks.{trimmed}
use Rattle.lines.specs.Blanks.{continued_part, is_skipped}
use Rattle.lines.specs.Directives.{directive_of}
use Rattle.lines.specs.Escape.{byte_of}
use Rattle.lines.specs.File.{IsFile}
use Rattle.lines.specs.Marks.{marks_of, closes, body_line}
use Rattle.lines.specs.PrivateSteps.{initial_state, at_position, count_line, with_fault, is_repeated, take_value, refuse_repeated, read_directive, refuse_past_limit, complete_line, open_heredocs, close_line, join_part, join_line, next_heredoc, close_heredoc, grow_body, read_between, read_at_top_as, read_within, read_body_line, read_at, read_line, after_lines, end_continuation, refuse_unclosed, end_file}
use Rattle.lines.specs.Ready.{IsWhole, empty, ended, BeginsUtf8, IsBegun, AreComplete, AreReady}
use Rattle.lines.specs.Text.{IsShort, text_lines, AreLines}
use Rattle.lines.specs.declared.directives.Directive.{Directive}
use Rattle.lines.specs.declared.directives.Directive.TheVariants.{Escape, Syntax, Check}
use Rattle.lines.specs.declared.line.Heredoc.{Heredoc}
use Rattle.lines.specs.declared.line.Line.{Line}
use Rattle.lines.specs.declared.line.Mark.{Mark}
use Rattle.lines.specs.declared.state.FileState.{FileState}
use Rattle.lines.specs.declared.state.Pending.{Pending}
use Rattle.lines.specs.declared.state.Position.{Position}
use Rattle.lines.specs.declared.state.Position.TheVariants.{Top, Between, Within, Bodies}
use Rattle.lines.specs.declared.state.Seen.{Seen}
use Rattle.lines.specs.declared.state.Unclosed.{Unclosed}
use Rattle.lines.proofs.FileLaws.{IsFile-only}
use Rattle.lines.proofs.ReadLaws.{not_empty}
use Rattle.lines.proofs.ReaderLaws.{IsLastCut, last_cut}
use Rattle.lines.proofs.ReadyLaws.{begun_only, ready_lines, ready_nothing, ready_bad, ready_long}
use Rattle.lines.proofs.ScanLaws.{faults_so_far}
use Rattle.lines.proofs.TextLaws.{le_or_not}
use Rattle.lines.proofs.TextLemmas.{after_lines-split}
use Rattle.lines.proofs.WholeLemmas.{text_lines_append}

-- all lines begin with these
abbrev IsFront : List Line → List Line → Type 0
IsFront front all = (more : List Line) × (all ≡ front ++ more)

-- what a state has found begins with these lines
abbrev Grows : List Line → FileState → Type 0
Grows ls s = IsFront ls s.lines

either_grows : (ls : List Line) (a b : FileState) (t : Bool) → Grows ls a → Grows ls b → Grows ls (if t then a else b)
either_grows ls a b true h i = h
either_grows ls a b false h i = i

limit_grows : (ls : List Line) (s : FileState) (n : ℕ) → Grows ls s → Grows ls (refuse_past_limit s n)
limit_grows ls s n h = either_grows ls (with_fault s R18 n) s (length s.lines == s.room) h h

complete_grows : (ls : List Line) (s : FileState) (n : ℕ) (text : List ℕ) (hs : List Heredoc) → Grows ls s → Grows ls (complete_line s n text hs)
complete_grows ls s n text hs h =
    let line : Line = record { number = n; text = text; heredocs = hs; escape = s.escape } in
    (h.0 ++ line ∷ [], ap (λ (x : List Line). x ++ line ∷ []) h.1 ∙ append_assoc ls h.0 (line ∷ []))

open_grows : (ls : List Line) (s : FileState) (n : ℕ) (text : List ℕ) (ms : List Mark) → Grows ls s → Grows ls (open_heredocs s n text ms)
open_grows ls s n text [] h = complete_grows ls s n text [] h
open_grows ls s n text (m ∷ ms) h = h

close_grows : (ls : List Line) (s : FileState) (n : ℕ) (text : List ℕ) → Grows ls s → Grows ls (close_line s n text)
close_grows ls s n [] h = h
close_grows ls s n (c ∷ cs) h = open_grows ls (refuse_past_limit s n) n (c ∷ cs) (marks_of (c ∷ cs)) (limit_grows ls s n h)

part_grows : (ls : List Line) (s : FileState) (n : ℕ) (before line : List ℕ) (o : Option (List ℕ)) → Grows ls s → Grows ls (join_part s n before line o)
part_grows ls s n before line None h = close_grows ls s n (trimmed (before ++ line)) h
part_grows ls s n before line (Some part) h = h

join_grows : (ls : List Line) (s : FileState) (n : ℕ) (before line : List ℕ) → Grows ls s → Grows ls (join_line s n before line)
join_grows ls s n before line h = part_grows ls s n before line (continued_part (byte_of s.escape) line) h

value_grows : (ls : List Line) (s : FileState) (d : Directive) → Grows ls s → Grows ls (take_value s d)
value_grows ls s (Escape (Some e)) h = h
value_grows ls s (Escape None) h = h
value_grows ls s Syntax h = h
value_grows ls s Check h = h

directive_grows : (ls : List Line) (s : FileState) (seen : Seen) (d : Directive) → Grows ls s → Grows ls (read_directive s seen d)
directive_grows ls s seen d h =
    value_grows ls (refuse_repeated s seen d) d (either_grows ls (with_fault s R02 s.count) s (is_repeated seen d) h h)

next_grows : (ls : List Line) (s : FileState) (u : Unclosed) (hs : List Heredoc) (o : Option Mark) → Grows ls s → Grows ls (next_heredoc s u hs o)
next_grows ls s u hs None h = complete_grows ls s u.number u.text hs h
next_grows ls s u hs (Some m) h = h

between_grows : (ls : List Line) (s : FileState) (line : List ℕ) → Grows ls s → Grows ls (read_between s line)
between_grows ls s line h = either_grows ls (at_position s Between) (join_line s s.count [] line) (is_skipped line) h (join_grows ls s s.count [] line h)

top_grows : (ls : List Line) (s : FileState) (seen : Seen) (line : List ℕ) (o : Option Directive) → Grows ls s → Grows ls (read_at_top_as s seen line o)
top_grows ls s seen line None h = between_grows ls s line h
top_grows ls s seen line (Some d) h = directive_grows ls s seen d h

own_grows : (ls : List Line) (s : FileState) (p : Pending) (line : List ℕ) → Grows ls s → Grows ls (read_within s p line)
own_grows ls s p line h = either_grows ls (at_position s (Within p)) (join_line s p.number p.text line) (is_skipped line) h (join_grows ls s p.number p.text line h)

body_grows : (ls : List Line) (s : FileState) (u : Unclosed) (line : List ℕ) → Grows ls s → Grows ls (read_body_line s u line)
body_grows ls s u line h =
    either_grows ls (close_heredoc s u) (grow_body s u (body_line u.mark line)) (closes u.mark line)
    (next_grows ls s u (u.heredocs ++ (record { mark = u.mark; body = u.body }) ∷ []) (slice_get u.marks (length u.heredocs + 1)) h) h

at_grows : (ls : List Line) (s : FileState) (p : Position) (line : List ℕ) → Grows ls s → Grows ls (read_at s p line)
at_grows ls s (Top seen) line h = top_grows ls s seen line (directive_of line) h
at_grows ls s Between line h = between_grows ls s line h
at_grows ls s (Within p) line h = own_grows ls s p line h
at_grows ls s (Bodies u) line h = body_grows ls s u line h

line_grows : (ls : List Line) (s : FileState) (line : List ℕ) → Grows ls s → Grows ls (read_line s line)
unfolding read_line
line_grows ls s line h = at_grows ls (count_line s) s.position line h

lines_grow : (ls : List Line) (s : FileState) (lines : List (List ℕ)) → Grows ls s → Grows ls (after_lines s lines)
lines_grow ls s [] h = h
lines_grow ls s (line ∷ lines) h = lines_grow ls (read_line s line) lines (line_grows ls s line h)

-- and so of the end of the text

stopped_grows : (ls : List Line) (s : FileState) (p : Position) → Grows ls s → Grows ls (end_continuation s p)
stopped_grows ls s (Within p) h = close_grows ls s p.number (trimmed p.text) h
stopped_grows ls s (Top seen) h = h
stopped_grows ls s Between h = h
stopped_grows ls s (Bodies u) h = h

unclosed_grows : (ls : List Line) (s : FileState) (p : Position) → Grows ls s → Grows ls (refuse_unclosed s p)
unclosed_grows ls s (Bodies u) h = h
unclosed_grows ls s (Top seen) h = h
unclosed_grows ls s Between h = h
unclosed_grows ls s (Within p) h = h

end_grows : (ls : List Line) (s : FileState) → Grows ls s → Grows ls (end_file s)
end_grows ls s h =
    let t = end_continuation s s.position in
    unclosed_grows ls t t.position (stopped_grows ls s s.position h)

-- what is complete of a text's whole lines stays in front of all that the text gives

whole_front : (whole more : List ℕ) (ready found : List Line) → IsWhole whole → IsBegun (text_lines whole) ready [] → IsFile (text_lines (whole ++ more)) found [] → IsFront ready found
whole_front _ more ready found empty begun file =
    let none : ready ≡ [] = (begun_only (text_lines []) ready [] begun).0 in
    (found, ap (λ (x : List Line). x ++ found) (sym none))
whole_front _ more ready found (ended f) begun file =
    let whole = f ++ 10 ∷ [] in
    let s = after_lines initial_state (text_lines whole) in
    let at : ready ≡ s.lines = (begun_only (text_lines whole) ready [] begun).0 in
    let walk : end_file (after_lines initial_state (text_lines (whole ++ more))) ≡ end_file (after_lines s (lines more)) =
    ap (λ (x : List (List ℕ)). end_file (after_lines initial_state x)) (text_lines_append whole more (ended f) (not_empty f []))
    ∙ ap end_file (after_lines-split initial_state (text_lines whole) (lines more)) in
    let grown : Grows s.lines (end_file (after_lines s (lines more))) =
    end_grows s.lines (after_lines s (lines more)) (lines_grow s.lines s (lines more) ([], sym (append-nil s.lines))) in (
      grown.0,
      (IsFile-only (text_lines (whole ++ more)) found [] file).0
          ∙ ap (λ (r : FileState). r.lines) walk
          ∙ grown.1
          ∙ ap (λ (x : List Line). x ++ grown.0) (sym at),
    )

complete_front : (text rest : List ℕ) (ready found : List Line) → AreComplete text ready → AreLines (text ++ rest) found → IsFront ready found
complete_front text rest ready found c h =
    let whole = c.2.0 in
    let cut : text ++ rest ≡ whole ++ (c.2.1.0 ++ rest) = ap (λ (t : List ℕ). t ++ rest) c.2.1.1 ∙ append_assoc whole c.2.1.0 rest in
    whole_front whole (c.2.1.0 ++ rest) ready found c.2.1.2 c.2.2 (subst (λ (t : List ℕ). IsFile (text_lines t) found []) cut h.2)

-- what is ready of a text's front is in front of all that the text gives
pub ready_front : (text rest : List ℕ) (ready found : List Line) → AreReady text ready → AreLines (text ++ rest) found → (more : List Line) × (found ≡ ready ++ more)
ready_front text rest ready found (inl c) h = complete_front text rest ready found c h
ready_front text rest ready found (inr n) h = (found, ap (λ (x : List Line). x ++ found) (sym n.0))

-- each text has lines that are ready, which may be none

abbrev HasReady : List ℕ → Type 0
HasReady text = (found : List Line) × AreReady text found

ready_whole : (text : List ℕ) (t : IsLastCut text) (fs : List Refusal) → IsShort text → BeginsUtf8 text → faults_so_far (after_lines initial_state (text_lines t.whole)) ≡ fs → HasReady text
ready_whole text t [] short begins e =
    ((after_lines initial_state (text_lines t.whole)).lines, ready_lines text t.whole short begins (t.rest, t.is, t.ends, t.plain) e)
ready_whole text t (f ∷ fs) short begins e =
    ([], ready_nothing text t.whole (t.rest, t.is, t.ends, t.plain) (λ none. let bad : [] ≡ f ∷ fs = sym none ∙ e in cc))

ready_short : (text : List ℕ) (o : Option ℕ) → IsShort text → utf8_error_len (drop (utf8_valid_len text) text) ≡ o → HasReady text
ready_short text None short e =
    let t = last_cut text in
    ready_whole text t (faults_so_far (after_lines initial_state (text_lines t.whole))) short e refl
ready_short text (Some n) short e = ([], ready_bad text (λ h. let bad : None ≡ Some n = sym h ∙ e in cc))

ready_by : (text : List ℕ) → (IsShort text) ⊎ (¬ (IsShort text)) → HasReady text
ready_by text (inl short) = ready_short text (utf8_error_len (drop (utf8_valid_len text) text)) short refl
ready_by text (inr long) = ([], ready_long text long)

pub ready_some : (text : List ℕ) → (found : List Line) × AreReady text found
ready_some text = ready_by text (le_or_not (length text) most_dockerfile_bytes (nat_le (length text) most_dockerfile_bytes) refl)
