-- A line that doesn't end its block leaves what is known of the block as it is.
use Rattle.std.specs.Prelude.{◌≡◌, ◌≢◌, ℕ, ◌+◌, ◌==◌, ◌||◌, ◌&&◌, not, Bool, true, false, MatchBool, List, [], is_some, ◌∷◌, ◌++◌, Option, Some, None, length, slice_get, if◌then◌else◌, refl}
use Rattle.std.proofs.Common.{◌∙◌, sym, ap, ap₂, subst, arith}
use Rattle.std.proofs.lemmas.Bool.{true≢false}
use Rattle.std.proofs.lemmas.Bool.Decides.{nat_tests}
use Rattle.std.proofs.lemmas.List.{length-append}
use Rattle.plain.specs.declared.refusal.Code.TheVariants.{R18}
use Rattle.plain.specs.declared.refusal.Refusal.{Refusal}
use Rattle.ascii.specs.Blanks.{trimmed}
use Rattle.lines.specs.Blanks.{is_blank_line, is_skipped}
use Rattle.lines.specs.Directives.{directive_of}
use Rattle.lines.specs.Escape.{byte_of}
use Rattle.lines.specs.File.{goes_on, part_of}
use Rattle.lines.specs.Marks.{marks_of, closes, body_line}
use Rattle.lines.specs.PrivateSteps.{at_position, count_line, with_fault, refuse_past_limit, open_heredocs, close_line, next_heredoc, close_heredoc, grow_body, join_line, read_at_top_as, read_line, end_continuation}
use Rattle.lines.specs.PrivateScan.{state_at, position_of, IsOwn, IsClosing, IsInStage}
use Rattle.lines.specs.declared.escape.Escape as character
use Rattle.lines.specs.declared.line.Mark.{Mark}
use Rattle.lines.specs.declared.line.Heredoc.{Heredoc}
use Rattle.lines.specs.declared.scan.Place.{Place}
use Rattle.lines.specs.declared.scan.Progress.{Progress}
use Rattle.lines.specs.declared.scan.Stage.{Stage}
use Rattle.lines.specs.declared.scan.Stage.TheVariants.{Fresh, Own, Closing}
use Rattle.lines.specs.declared.state.Pending.{Pending}
use Rattle.lines.specs.declared.state.Seen.{Seen}
use Rattle.lines.specs.declared.state.Unclosed.{Unclosed}
use Rattle.lines.specs.declared.state.Position.{Position}
use Rattle.lines.specs.declared.state.Position.TheVariants.{Between, Within, Bodies}
use Rattle.lines.specs.declared.state.FileState.{FileState}
use Rattle.lines.proofs.BlockLaws.{within_on}
use Rattle.lines.proofs.SaysLemmas.{says_more, blank_trimmed, says_trimmed}
use Rattle.lines.proofs.FitLaws.{not_nil}

here : (s : FileState) (p : Position) → s.position ≡ p → s ≡ at_position s p
here s p e = ap (λ (q : Position). record s { position = q }) e

-- a line by which a logical line goes on
pub stays_own : (progress : Progress) (past : Bool) (s : FileState) (line : List ℕ) → IsOwn progress s → goes_on (byte_of progress.escape) line ≡ true
    → past ≡ (progress.is_past || ((progress.room == 0) && not (is_blank_line (part_of (byte_of progress.escape) line))))
    → IsOwn (record progress { is_past = past }) (read_line s line)
stays_own progress past s line h g e =
    let p : Pending = h.4.0 in
    let part = part_of (byte_of progress.escape) line in
    let walk : read_line s line ≡ at_position (count_line s) (Within (record { number = p.number; text = p.text ++ part })) =
    ap (λ (r : FileState). read_line r line) (here s (Within p) h.4.1)
    ∙ within_on s p line (ap (λ (c : character.Escape). goes_on (byte_of c) line) h.0 ∙ g)
    ∙ ap (λ (c : character.Escape). at_position (count_line s) (Within (record { number = p.number; text = p.text ++ part_of (byte_of c) line }))) h.0 in
    let says : past ≡ ((progress.room == 0) && not (is_blank_line (p.text ++ part))) =
    e ∙ ap (λ t. t || ((progress.room == 0) && not (is_blank_line part))) h.4.2 ∙ says_more (progress.room == 0) p.text part in
    subst (IsOwn (record progress { is_past = past })) (sym walk) (h.0, h.1, h.2, h.3, (record { number = p.number; text = p.text ++ part }, refl, says))

-- a line of a heredoc's body
body_line_is : (s : FileState) (u : Unclosed) (line : List ℕ) (b : Bool) → closes u.mark line ≡ b
    → read_line (at_position s (Bodies u)) line ≡ (if b then close_heredoc (count_line s) u else grow_body (count_line s) u (body_line u.mark line))
unfolding read_line
body_line_is s u line b e = ap (λ t. if t then close_heredoc (count_line s) u else grow_body (count_line s) u (body_line u.mark line)) e

mark_is : (marks : List Mark) (n : ℕ) (a b : Mark) → slice_get marks n ≡ Some a → slice_get marks n ≡ Some b → a ≡ b
mark_is marks n a b h i = let e : Some a ≡ Some b = sym h ∙ i in cc

pub stays_inside : (marks : List Mark) (progress : Progress) (s : FileState) (n : ℕ) (mark : Mark) (line : List ℕ) → IsClosing marks progress n s → slice_get marks n ≡ Some mark
    → closes mark line ≡ false → IsClosing marks progress n (read_line s line)
stays_inside marks progress s n mark line h m c =
    let u : Unclosed = h.2.0 in
    let no : closes u.mark line ≡ false = ap (λ (k : Mark). closes k line) (mark_is marks n u.mark mark h.2.4 m) ∙ c in
    let walk : read_line s line ≡ grow_body (count_line s) u (body_line u.mark line) =
    ap (λ (r : FileState). read_line r line) (here s (Bodies u) h.2.1) ∙ body_line_is s u line false no in
    subst (IsClosing marks progress n) (sym walk) (h.0, h.1, (record u { body = u.body ++ (body_line u.mark line ++ 10 ∷ []) }, refl, h.2.2, h.2.3, h.2.4))

-- the line that closes a heredoc after which another one stands
pub goes_to_next : (marks : List Mark) (progress : Progress) (s : FileState) (n : ℕ) (mark next : Mark) (line : List ℕ) → IsClosing marks progress n s → slice_get marks n ≡ Some mark
    → closes mark line ≡ true → slice_get marks (n + 1) ≡ Some next → IsClosing marks progress (n + 1) (read_line s line)
goes_to_next marks progress s n mark next line h m c more =
    let u : Unclosed = h.2.0 in
    let hs : List Heredoc = u.heredocs ++ (record { mark = u.mark; body = u.body }) ∷ [] in
    let yes : closes u.mark line ≡ true = ap (λ (k : Mark). closes k line) (mark_is marks n u.mark mark h.2.4 m) ∙ c in
    let there : slice_get u.marks (length u.heredocs + 1) ≡ Some next = ap₂ (λ (ms : List Mark) (k : ℕ). slice_get ms (k + 1)) h.2.2 h.2.3 ∙ more in
    let walk : read_line s line ≡ at_position (count_line s) (Bodies (record u { heredocs = hs; mark = next; body = [] })) =
    ap (λ (r : FileState). read_line r line) (here s (Bodies u) h.2.1) ∙ body_line_is s u line true yes ∙ ap (next_heredoc (count_line s) u hs) there in
    let size : length hs ≡ n + 1 = length-append u.heredocs ((record { mark = u.mark; body = u.body }) ∷ []) ∙ ap (λ k. k + 1) h.2.3 in
    subst (IsClosing marks progress (n + 1)) (sym walk) (h.0, h.1, (record u { heredocs = hs; mark = next; body = [] }, refl, h.2.2, size, more))

-- what is wrong with the complete lines of a text, if it ended after them, but for an open heredoc

abbrev pub faults_so_far : FileState → List Refusal
faults_so_far s = (end_continuation s s.position).faults

pub opened_faults : (r : FileState) (n : ℕ) (text : List ℕ) (ms : List Mark) → (open_heredocs r n text ms).faults ≡ r.faults
opened_faults r n text [] = refl
opened_faults r n text (m ∷ ms) = refl

closed_faults : (s : FileState) (n : ℕ) (text : List ℕ) → text ≢ [] → (close_line s n text).faults ≡ (refuse_past_limit s n).faults
closed_faults s n [] h = absurd (h refl)
closed_faults s n (c ∷ cs) h = opened_faults (refuse_past_limit s n) n (c ∷ cs) (marks_of (c ∷ cs))

limit_faults_by : (s : FileState) (n : ℕ) (b : Bool) → (if b then with_fault s R18 n else s).faults ≡ (if b then s.faults ++ (record { code = R18; line = n }) ∷ [] else s.faults)
limit_faults_by s n true = refl
limit_faults_by s n false = refl

full_is : (found room : ℕ) (b : Bool) → found ≡ 0 → (room == 0) ≡ b → (found == room) ≡ b
full_is found room true e h = grind (arith, nat_tests)
full_is found room false e h = grind (arith, nat_tests)

past_text : (s : FileState) (p : Pending) (full blank : Bool) → s.lines ≡ [] → s.faults ≡ [] → (s.room == 0) ≡ full → is_blank_line p.text ≡ blank
    → MatchBool (full && not blank) ((close_line s p.number (trimmed p.text)).faults ≢ []) ((close_line s p.number (trimmed p.text)).faults ≡ [])
past_text s p true true l f e h = ap (λ (t : List ℕ). (close_line s p.number t).faults) (blank_trimmed p.text h) ∙ f
past_text s p false true l f e h = ap (λ (t : List ℕ). (close_line s p.number t).faults) (blank_trimmed p.text h) ∙ f
past_text s p full false l f e h =
    let is : (close_line s p.number (trimmed p.text)).faults ≡ (if full then s.faults ++ (record { code = R18; line = p.number }) ∷ [] else s.faults) =
    closed_faults s p.number (trimmed p.text) (says_trimmed p.text h)
    ∙ ap (λ b. (if b then with_fault s R18 p.number else s).faults) (full_is (length s.lines) s.room full (ap length l) e)
    ∙ limit_faults_by s p.number full in past_full full is
  where
    past_full : (t : Bool) → (close_line s p.number (trimmed p.text)).faults ≡ (if t then s.faults ++ (record { code = R18; line = p.number }) ∷ [] else s.faults)
        → MatchBool (t && true) ((close_line s p.number (trimmed p.text)).faults ≢ []) ((close_line s p.number (trimmed p.text)).faults ≡ [])
    past_full true i = λ none. not_nil s.faults (record { code = R18; line = p.number }) (sym i ∙ none)
    past_full false i = i ∙ f

past_own : (progress : Progress) (s : FileState) → IsOwn progress s → MatchBool progress.is_past (faults_so_far s ≢ []) (faults_so_far s ≡ [])
past_own progress s h =
    let p : Pending = h.4.0 in
    let room : (s.room == 0) ≡ (progress.room == 0) = ap (λ n. n == 0) h.1 in
    subst (λ b. MatchBool b (faults_so_far s ≢ []) (faults_so_far s ≡ [])) (sym h.4.2)
    (subst (λ (q : Position). MatchBool ((progress.room == 0) && not (is_blank_line p.text)) ((end_continuation s q).faults ≢ []) ((end_continuation s q).faults ≡ [])) (sym h.4.1)
    (past_text s p (progress.room == 0) (is_blank_line p.text) h.2 h.3 room refl))

past_closing : (marks : List Mark) (progress : Progress) (n : ℕ) (s : FileState) → IsClosing marks progress n s → MatchBool progress.is_past (faults_so_far s ≢ []) (faults_so_far s ≡ [])
past_closing marks progress n s h =
    subst (λ (q : Position). MatchBool progress.is_past ((end_continuation s q).faults ≢ []) ((end_continuation s q).faults ≡ [])) (sym h.2.1) h.1

past_at : (s : FileState) (seen : Option Seen) → s.position ≡ position_of seen → s.faults ≡ [] → faults_so_far s ≡ []
past_at s (Some seen) e f = subst (λ (q : Position). (end_continuation s q).faults ≡ []) (sym e) f
past_at s None e f = subst (λ (q : Position). (end_continuation s q).faults ≡ []) (sym e) f

-- a block that isn't complete has given no line, and it is known whether something is wrong with it
pub record IsHeldBack (progress : Progress) (s : FileState) : Type 0 where
  pub lines : s.lines ≡ []
  pub past : MatchBool progress.is_past (faults_so_far s ≢ []) (faults_so_far s ≡ [])

pub held_back : (marks : List Mark) (progress : Progress) (stage : Stage) (s : FileState) → progress.stage ≡ stage → IsInStage marks progress stage s
    → (stage ≡ Fresh → s ≡ state_at progress.place progress.room) → IsHeldBack progress s
held_back marks progress Fresh s e h fresh =
    let is = fresh refl in
    record {
      lines = ap (λ (r : FileState). r.lines) is;
      past = subst (λ b. MatchBool b (faults_so_far s ≢ []) (faults_so_far s ≡ [])) (sym h) (past_at s progress.place.seen (ap (λ (r : FileState). r.position) is) (ap (λ (r : FileState). r.faults) is));
    }
held_back marks progress Own s e h fresh = record { lines = h.2; past = past_own progress s h }
held_back marks progress (Closing n) s e h fresh = record { lines = h.0; past = past_closing marks progress n s h }

nothing_there : {A : Type 0} (o : Option A) → is_some o ≡ false → o ≡ None
nothing_there None e = refl
nothing_there (Some x) e = absurd (true≢false e)

-- a line between blocks that is dropped, and is no directive
pub dropped_at : (place : Place) (room : ℕ) (seen : Option Seen) (line : List ℕ) → is_skipped line ≡ true → (is_some seen && is_some (directive_of line)) ≡ false
    → read_line (state_at (record place { seen = seen }) room) line ≡ state_at (record place { count = place.count + 1; seen = None }) room
unfolding read_line
dropped_at place room None line skipped other =
    let s : FileState = count_line (state_at (record place { seen = None }) room) in
    ap (λ b. if b then at_position s Between else join_line s s.count [] line) skipped
dropped_at place room (Some seen) line skipped other =
    let s : FileState = count_line (state_at (record place { seen = Some seen }) room) in
    ap (read_at_top_as s seen line) (nothing_there (directive_of line) other)
    ∙ ap (λ b. if b then at_position s Between else join_line s s.count [] line) skipped
