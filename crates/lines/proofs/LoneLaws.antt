-- A line between blocks that is a logical line by itself: it is read as such, and its place, room and line are those that are left.
use Rattle.std.specs.Prelude.{◌≡◌, ◌≢◌, ◌<◌, ℕ, ◌+◌, ◌-◌, ◌==◌, ◌||◌, Bool, true, false, List, [], ◌∷◌, ◌++◌, Option, Some, None, is_some, length, if◌then◌else◌, refl}
use Rattle.std.proofs.Common.{◌∙◌, sym, ap, ap₂, arith}
use Rattle.std.proofs.lemmas.Bool.{true≢false}
use Rattle.std.proofs.lemmas.Bool.Decides.{nat_tests}
use Rattle.std.proofs.lemmas.List.{append-nil, length-append}
use Rattle.plain.specs.declared.refusal.Code.TheVariants.{R18}
use Rattle.ascii.specs.Blanks.{trimmed}
use Rattle.lines.specs.Blanks.{continued_part, is_blank_line, is_comment, is_skipped}
use Rattle.lines.specs.Directives.{directive_of, directive_after}
use Rattle.lines.specs.Escape.{byte_of}
use Rattle.lines.specs.File.{goes_on}
use Rattle.lines.specs.Marks.{marks_of}
use Rattle.lines.specs.PrivateSteps.{at_position, count_line, with_fault, refuse_past_limit, complete_line, open_heredocs, close_line, join_part, join_line, read_between, read_at_top_as, read_line}
use Rattle.lines.specs.PrivateScan.{state_at, IsLone, after_lone, below}
use Rattle.lines.specs.declared.line.Line.{Line}
use Rattle.lines.specs.declared.scan.Place.{Place}
use Rattle.lines.specs.declared.state.Seen.{Seen}
use Rattle.lines.specs.declared.state.Position.TheVariants.{Between}
use Rattle.lines.specs.declared.state.FileState.{FileState}
use Rattle.lines.proofs.SaysLemmas.{says_trimmed}

-- it isn't dropped

kept_by : (line : List ℕ) (s o : Bool) → is_skipped line ≡ s → (s || o) ≡ false → is_skipped line ≡ false
kept_by line true o e g = absurd (true≢false g)
kept_by line false o e g = e

kept : (e : ℕ) (line : List ℕ) → goes_on e line ≡ false → is_skipped line ≡ false
kept e line g = kept_by line (is_skipped line) (is_some (continued_part e line)) refl g

said_by : (line : List ℕ) (b c : Bool) → is_blank_line line ≡ b → (b || c) ≡ false → is_blank_line line ≡ false
said_by line true c e g = absurd (true≢false g)
said_by line false c e g = e

said : (line : List ℕ) → is_skipped line ≡ false → trimmed line ≢ []
said line h = says_trimmed line (said_by line (is_blank_line line) (is_comment line) refl h)

-- so it is no directive, which begins with `#`

or_true : (b : Bool) → (b || true) ≡ true
or_true true = refl
or_true false = refl

no_directive_by : (c : ℕ) (cs : List ℕ) (b : Bool) → (c == 35) ≡ b → is_skipped (c ∷ cs) ≡ false → directive_after (if b then Some cs else None) ≡ None
no_directive_by c cs true e h =
    let is : c ≡ 35 = grind (arith, nat_tests) in
    absurd (true≢false (sym (or_true (is_blank_line (35 ∷ cs))) ∙ sym (ap (λ n. is_skipped (n ∷ cs)) is) ∙ h))
no_directive_by c cs false e h = refl

no_directive : (line : List ℕ) → is_skipped line ≡ false → directive_of line ≡ None
no_directive [] h = refl
no_directive (c ∷ cs) h = no_directive_by c cs (c == 35) refl h

-- it is read as a logical line

ends_by : (s : FileState) (line : List ℕ) (b : Bool) (o : Option (List ℕ)) → is_skipped line ≡ b → continued_part (byte_of s.escape) line ≡ o → (b || is_some o) ≡ false
    → read_between s line ≡ close_line s s.count (trimmed line)
ends_by s line true o h e g = absurd (true≢false g)
ends_by s line false (Some part) h e g = absurd (true≢false g)
ends_by s line false None h e g =
    ap (λ b. if b then at_position s Between else join_line s s.count [] line) h ∙ ap (join_part s s.count [] line) e

closes_by : (s : FileState) (n : ℕ) (text : List ℕ) → text ≢ [] → marks_of text ≡ [] → (length s.lines == s.room) ≡ false → close_line s n text ≡ complete_line s n text []
closes_by s n [] h m r = absurd (h refl)
closes_by s n (c ∷ cs) h m r = ap (open_heredocs (refuse_past_limit s n) n (c ∷ cs)) m ∙ ap (λ b. complete_line (if b then with_fault s R18 n else s) n (c ∷ cs) []) r

between_by : (place : Place) (room : ℕ) (line text : List ℕ) → IsLone (byte_of place.escape) line text → 0 < room
    → read_between (count_line (state_at place room)) line ≡ after_lone place room text
between_by place room line text h r =
    let s : FileState = count_line (state_at place room) in
    let some : (0 == room) ≡ false = grind (arith, nat_tests) in
    ends_by s line (is_skipped line) (continued_part (byte_of place.escape) line) refl refl h.0
    ∙ ap (close_line s s.count) (sym h.1)
    ∙ closes_by s s.count text (λ e. said line (kept (byte_of place.escape) line h.0) (sym h.1 ∙ e)) h.2 some

pub lone_at : (place : Place) (room : ℕ) (seen : Option Seen) (line text : List ℕ) → IsLone (byte_of place.escape) line text → 0 < room
    → read_line (state_at (record place { seen = seen }) room) line ≡ after_lone place room text
unfolding read_line
lone_at place room None line text h r = between_by place room line text h r
lone_at place room (Some seen) line text h r =
    let s : FileState = count_line (state_at place room) in
    ap (read_at_top_as s seen line) (no_directive line (kept (byte_of place.escape) line h.0)) ∙ between_by place room line text h r

-- what was found above it, and it
pub below_lone : (found : List Line) (place : Place) (room : ℕ) (line : Line) → 0 < room
    → below (found ++ line ∷ []) (state_at place (room - 1)) ≡ below found (record (state_at place room) { lines = line ∷ [] })
below_lone found place room line r =
    let left : (room - 1) + length (found ++ line ∷ []) ≡ room + length found = omega (arith, length-append found (line ∷ [])) in
    ap₂ (λ (n : ℕ) (lines : List Line). record (state_at place n) { lines = lines }) left (append-nil (found ++ line ∷ []))
