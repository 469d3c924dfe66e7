-- Laws of blocks: reading their lines one by one gives what the blocks give.
use Rattle.std.specs.Prelude.{◌≡◌, ◌<◌, ◌⊎◌, ℕ, zero, suc, ◌+◌, ◌==◌, ◌||◌, Bool, true, false, List, [], ◌∷◌, ◌++◌, if◌then◌else◌, Option, Some, None, is_some, unwrap_or, slice_get, length, drop, map, refl}
use Rattle.std.specs.List.{concat}
use Rattle.std.proofs.Common.{sym, ◌∙◌, ap, ap₂, subst, inl, inr, append_assoc, arith}
use Rattle.std.proofs.lemmas.Bool.{true≢false}
use Rattle.std.proofs.lemmas.Bool.Decides.{nat_tests}
use Rattle.std.proofs.lemmas.List.{append-nil, length-append}
use Rattle.plain.specs.declared.refusal.Code.TheVariants.{R08, R18}
use Rattle.plain.specs.declared.refusal.Refusal.{Refusal}
use Rattle.ascii.specs.Blanks.{trimmed}
use Rattle.lines.specs.Blanks.{continued_part, is_skipped}
use Rattle.lines.specs.Escape.{byte_of}
use Rattle.lines.specs.Faults.{refusal}
use Rattle.lines.specs.File.{refused_at, goes_on, BeginsKept, AreJoined, part_of, joined_text, AreInside, heredoc_of, AreBodies, AreUnclosed, line_of, AreBlocks, none, dropped, logical, open_ended, numbers_of}
use Rattle.plain.specs.Limits.{most_lines}
use Rattle.lines.specs.Marks.{marks_of, body_line, closes}
use Rattle.lines.specs.PrivateSteps.{at_position, count_line, with_fault, refuse_past_limit, complete_line, open_heredocs, close_line, join_part, join_line, next_heredoc, close_heredoc, grow_body, end_continuation, refuse_unclosed, end_file, read_line, after_lines}
use Rattle.lines.specs.declared.escape.Escape as character
use Rattle.lines.specs.declared.line.Heredoc.{Heredoc}
use Rattle.lines.specs.declared.line.Line.{Line}
use Rattle.lines.specs.declared.line.Mark.{Mark}
use Rattle.lines.specs.declared.state.Pending.{Pending}
use Rattle.lines.specs.declared.state.Unclosed.{Unclosed}
use Rattle.lines.specs.declared.state.Position.{Position}
use Rattle.lines.specs.declared.state.Position.TheVariants.{Between, Within, Bodies}
use Rattle.lines.specs.declared.state.FileState.{FileState}

-- what was read of some lines, between blocks
abbrev pub base : character.Escape → ℕ → List Line → List Refusal → FileState
base escape count found faults = record { escape = escape; count = count; position = Between; room = most_lines; lines = found; faults = faults }

-- the same with so many more lines counted
abbrev pub on : FileState → ℕ → FileState
on r k = record r { count = r.count + k; position = Between }

pub on_by : (r : FileState) (j k : ℕ) → j ≡ k → record r { count = j; position = Between } ≡ record r { count = k; position = Between }
on_by r j k e = ap (λ n. record r { count = n; position = Between }) e

-- a line of a logical line

within_on_by : (r : FileState) (p : Pending) (line : List ℕ) (s : Bool) (o : Option (List ℕ)) → is_skipped line ≡ s → continued_part (byte_of r.escape) line ≡ o → (s || is_some o) ≡ true
    → read_line (at_position r (Within p)) line ≡ at_position (count_line r) (Within (record { number = p.number; text = p.text ++ (if s then [] else unwrap_or o line) }))
unfolding read_line
within_on_by r p line true o h e g =
    ap (λ b. if b then at_position (count_line r) (Within p) else join_line (count_line r) p.number p.text line) h
    ∙ sym (ap (λ t. at_position (count_line r) (Within (record { number = p.number; text = t }))) (append-nil p.text))
within_on_by r p line false (Some part) h e g =
    ap (λ b. if b then at_position (count_line r) (Within p) else join_line (count_line r) p.number p.text line) h
    ∙ ap (join_part (count_line r) p.number p.text line) e
within_on_by r p line false None h e g = absurd (true≢false (sym g))

pub within_on : (r : FileState) (p : Pending) (line : List ℕ) → goes_on (byte_of r.escape) line ≡ true
    → read_line (at_position r (Within p)) line ≡ at_position (count_line r) (Within (record { number = p.number; text = p.text ++ part_of (byte_of r.escape) line }))
within_on r p line g = within_on_by r p line (is_skipped line) (continued_part (byte_of r.escape) line) refl refl g

within_off_by : (r : FileState) (p : Pending) (line : List ℕ) (s : Bool) (o : Option (List ℕ)) → is_skipped line ≡ s → continued_part (byte_of r.escape) line ≡ o → (s || is_some o) ≡ false
    → read_line (at_position r (Within p)) line ≡ close_line (count_line r) p.number (trimmed (p.text ++ (if s then [] else unwrap_or o line)))
unfolding read_line
within_off_by r p line true o h e g = absurd (true≢false g)
within_off_by r p line false (Some part) h e g = absurd (true≢false g)
within_off_by r p line false None h e g =
    ap (λ b. if b then at_position (count_line r) (Within p) else join_line (count_line r) p.number p.text line) h
    ∙ ap (join_part (count_line r) p.number p.text line) e

pub within_off : (r : FileState) (p : Pending) (line : List ℕ) → goes_on (byte_of r.escape) line ≡ false
    → read_line (at_position r (Within p)) line ≡ close_line (count_line r) p.number (trimmed (p.text ++ part_of (byte_of r.escape) line))
within_off r p line g = within_off_by r p line (is_skipped line) (continued_part (byte_of r.escape) line) refl refl g

pub between_kept : (r : FileState) (line : List ℕ) → is_skipped line ≡ false
    → read_line (at_position r Between) line ≡ read_line (at_position r (Within (record { number = r.count + 1; text = [] }))) line
unfolding read_line
between_kept r line h =
    ap (λ b. if b then at_position (count_line r) Between else join_line (count_line r) (r.count + 1) [] line) h
    ∙ sym (ap (λ b. if b then at_position (count_line r) (Within (record { number = r.count + 1; text = [] })) else join_line (count_line r) (r.count + 1) [] line) h)

pub between_dropped : (r : FileState) (line : List ℕ) → is_skipped line ≡ true → read_line (at_position r Between) line ≡ at_position (count_line r) Between
unfolding read_line
between_dropped r line h = ap (λ b. if b then at_position (count_line r) Between else join_line (count_line r) (r.count + 1) [] line) h

-- the end of the text in a continuation

opened_position : (r : FileState) (position : Position) (n : ℕ) (text : List ℕ) (b : Bool) (marks : List Mark) → open_heredocs (if b then with_fault (at_position r position) R18 n else at_position r position) n text marks ≡ open_heredocs (if b then with_fault r R18 n else r) n text marks
opened_position r position n text true [] = refl
opened_position r position n text true (m ∷ ms) = refl
opened_position r position n text false [] = refl
opened_position r position n text false (m ∷ ms) = refl

pub closed_position : (r : FileState) (position : Position) (n : ℕ) (text : List ℕ) → close_line (at_position r position) n text ≡ close_line r n text
closed_position r position n [] = refl
closed_position r position n (c ∷ cs) = opened_position r position n (c ∷ cs) (length r.lines == r.room) (marks_of (c ∷ cs))

stopped_opened : (r : FileState) (n : ℕ) (text : List ℕ) (marks : List Mark) → end_continuation (open_heredocs r n text marks) (open_heredocs r n text marks).position ≡ open_heredocs r n text marks
stopped_opened r n text [] = refl
stopped_opened r n text (m ∷ ms) = refl

stopped_closed : (r : FileState) (n : ℕ) (text : List ℕ) → end_continuation (close_line r n text) (close_line r n text).position ≡ close_line r n text
stopped_closed r n [] = refl
stopped_closed r n (c ∷ cs) = stopped_opened (refuse_past_limit r n) n (c ∷ cs) (marks_of (c ∷ cs))

ended_within : (r : FileState) (p : Pending) → end_file (at_position r (Within p)) ≡ end_file (close_line r p.number (trimmed p.text))
ended_within r p =
    ap (λ (s : FileState). refuse_unclosed s s.position) (closed_position r (Within p) p.number (trimmed p.text) ∙ sym (stopped_closed r p.number (trimmed p.text)))

-- the lines of a logical line

last_within : (r : FileState) (p : Pending) (line : List ℕ) (more : List (List ℕ)) (b : Bool) → goes_on (byte_of r.escape) line ≡ b → (b ≡ false) ⊎ (more ≡ [])
    → end_file (after_lines (read_line (at_position r (Within p)) line) more) ≡ end_file (after_lines (close_line (count_line r) p.number (trimmed (p.text ++ part_of (byte_of r.escape) line))) more)
last_within r p line more false g h = ap (λ (s : FileState). end_file (after_lines s more)) (within_off r p line g)
last_within r p line more true g (inl h) = absurd (true≢false h)
last_within r p line more true g (inr h) =
    let text = p.text ++ part_of (byte_of r.escape) line in
    subst (λ (ls : List (List ℕ)). end_file (after_lines (read_line (at_position r (Within p)) line) ls) ≡ end_file (after_lines (close_line (count_line r) p.number (trimmed text)) ls)) (sym h)
    (ap end_file (within_on r p line g) ∙ ended_within (count_line r) (record { number = p.number; text = text }))

off_or_end : (e : ℕ) (line : List ℕ) (more : List (List ℕ)) → (goes_on e line ≡ false) ⊎ (more ≡ []) → (b : Bool) → goes_on e line ≡ b → (b ≡ false) ⊎ (more ≡ [])
off_or_end e line more (inl h) b g = inl (sym g ∙ h)
off_or_end e line more (inr h) b g = inr h

within_walk : (lines : List (List ℕ)) (r : FileState) (p : Pending) (line : List ℕ) (more : List (List ℕ)) → AreJoined (byte_of r.escape) (line ∷ lines) more
    → end_file (after_lines (at_position r (Within p)) ((line ∷ lines) ++ more))
    ≡ end_file (after_lines (close_line (on r (length (line ∷ lines))) p.number (trimmed (p.text ++ concat (map (part_of (byte_of r.escape)) (line ∷ lines))))) more)
within_walk [] r p line more h =
    last_within r p line more (goes_on (byte_of r.escape) line) refl (off_or_end (byte_of r.escape) line more h (goes_on (byte_of r.escape) line) refl)
    ∙ ap (λ t. end_file (after_lines (close_line (count_line r) p.number (trimmed (p.text ++ t))) more)) (sym (append-nil (part_of (byte_of r.escape) line)))
within_walk (next ∷ lines) r p line more h =
    let part = part_of (byte_of r.escape) line in
    let parts = concat (map (part_of (byte_of r.escape)) (next ∷ lines)) in
    let count : on (count_line r) (length (next ∷ lines)) ≡ on r (length (line ∷ next ∷ lines)) = on_by r ((r.count + 1) + length (next ∷ lines)) (r.count + length (line ∷ next ∷ lines)) (omega arith) in
    ap (λ (s : FileState). end_file (after_lines s ((next ∷ lines) ++ more))) (within_on r p line h.0)
    ∙ within_walk lines (count_line r) (record { number = p.number; text = p.text ++ part }) next more h.1
    ∙ ap₂ (λ (s : FileState) (t : List ℕ). end_file (after_lines (close_line s p.number (trimmed t)) more)) count (append_assoc p.text part parts)

logical_walk : (r : FileState) (own more : List (List ℕ)) → BeginsKept own → AreJoined (byte_of r.escape) own more
    → end_file (after_lines (at_position r Between) (own ++ more)) ≡ end_file (after_lines (close_line (on r (length own)) (r.count + 1) (joined_text (byte_of r.escape) own)) more)
logical_walk r [] more kept h = absurd kept
logical_walk r (line ∷ lines) more kept h =
    ap (λ (s : FileState). end_file (after_lines s (lines ++ more))) (between_kept r line kept) ∙ within_walk lines r (record { number = r.count + 1; text = [] }) line more h

-- the lines of heredocs

inside_by : (r : FileState) (u : Unclosed) (line : List ℕ) → closes u.mark line ≡ false → read_line (at_position r (Bodies u)) line ≡ grow_body (count_line r) u (body_line u.mark line)
unfolding read_line
inside_by r u line h = ap (λ b. if b then close_heredoc (count_line r) u else grow_body (count_line r) u (body_line u.mark line)) h

closing_by : (r : FileState) (u : Unclosed) (line : List ℕ) → closes u.mark line ≡ true → read_line (at_position r (Bodies u)) line ≡ close_heredoc (count_line r) u
unfolding read_line
closing_by r u line h = ap (λ b. if b then close_heredoc (count_line r) u else grow_body (count_line r) u (body_line u.mark line)) h

abbrev pub body_text : Mark → List (List ℕ) → List ℕ
body_text mark lines = (heredoc_of mark lines).body

pub inside_walk : (body : List (List ℕ)) (r : FileState) (u : Unclosed) (more : List (List ℕ)) → AreInside u.mark body
    → after_lines (at_position r (Bodies u)) (body ++ more) ≡ after_lines (at_position (on r (length body)) (Bodies (record u { body = u.body ++ body_text u.mark body }))) more
inside_walk [] r u more h =
    ap₂ (λ (n : ℕ) (t : List ℕ). after_lines (record r { count = n; position = Bodies (record u { body = t }) }) more) (omega arith) (sym (append-nil u.body))
inside_walk (line ∷ body) r u more h =
    let own = body_line u.mark line ++ 10 ∷ [] in
    ap (λ (s : FileState). after_lines s (body ++ more)) (inside_by r u line h.0)
    ∙ inside_walk body (count_line r) (record u { body = u.body ++ own }) more h.1
    ∙ ap₂ (λ (n : ℕ) (t : List ℕ). after_lines (record r { count = n; position = Bodies (record u { body = t }) }) more) (omega arith) (append_assoc u.body own (body_text u.mark body))

-- the heredocs of a logical line, of which some are closed and the next one begins
abbrev pub begun : ℕ → List ℕ → List Mark → List Heredoc → Mark → Unclosed
begun n text marks done mark = record { number = n; text = text; marks = marks; heredocs = done; mark = mark; body = [] }

next_begun : (r : FileState) (n : ℕ) (text : List ℕ) (marks : List Mark) (done : List Heredoc) (mark : Mark) (body : List ℕ) (heredocs : List Heredoc) (o : Option Mark)
    → next_heredoc r (record { number = n; text = text; marks = marks; heredocs = done; mark = mark; body = body }) heredocs o ≡ next_heredoc r (begun n text marks done mark) heredocs o
next_begun r n text marks done mark body heredocs None = refl
next_begun r n text marks done mark body heredocs (Some m) = refl

pub one_walk : (r : FileState) (n : ℕ) (text : List ℕ) (marks : List Mark) (done : List Heredoc) (mark : Mark) (body : List (List ℕ)) (closing : List ℕ) (more : List (List ℕ)) (o : Option Mark)
    → AreInside mark body → closes mark closing ≡ true → slice_get marks (length done + 1) ≡ o
    → after_lines (at_position r (Bodies (begun n text marks done mark))) (body ++ closing ∷ more)
    ≡ after_lines (next_heredoc (on r (length (body ++ closing ∷ []))) (begun n text marks done mark) (done ++ heredoc_of mark body ∷ []) o) more
one_walk r n text marks done mark body closing more o inside closes_it next =
    let u : Unclosed = record { number = n; text = text; marks = marks; heredocs = done; mark = mark; body = body_text mark body } in
    inside_walk body r (begun n text marks done mark) (closing ∷ more) inside
    ∙ ap (λ (s : FileState). after_lines s more) (closing_by (on r (length body)) u closing closes_it
    ∙ ap (next_heredoc (count_line (on r (length body))) u (done ++ heredoc_of mark body ∷ [])) next
    ∙ next_begun (count_line (on r (length body))) n text marks done mark (body_text mark body) (done ++ heredoc_of mark body ∷ []) o
    ∙ ap (λ (s : FileState). next_heredoc s (begun n text marks done mark) (done ++ heredoc_of mark body ∷ []) o) (on_by r ((r.count + length body) + 1) (r.count + length (body ++ closing ∷ [])) (omega (arith, length-append body (closing ∷ [])))))

next_of : (k : ℕ) (marks : List Mark) (mark : Mark) (more : List Mark) → drop k marks ≡ mark ∷ more → (slice_get marks (suc k) ≡ slice_get more 0) × (drop (suc k) marks ≡ more)
next_of zero [] mark more h = absurd (cc)
next_of zero (m ∷ ms) mark more h = let e : ms ≡ more = cc in (ap (λ (x : List Mark). slice_get x 0) e, e)
next_of (suc k) [] mark more h = absurd (cc)
next_of (suc k) (m ∷ ms) mark more h = next_of k ms mark more h

pub next_mark : (done : List Heredoc) (marks : List Mark) (mark : Mark) (more : List Mark) → drop (length done) marks ≡ mark ∷ more → slice_get marks (length done + 1) ≡ slice_get more 0
next_mark done marks mark more h = let e : length done + 1 ≡ suc (length done) = omega arith in ap (slice_get marks) e ∙ (next_of (length done) marks mark more h).0

pub next_left : (done : List Heredoc) (heredoc : Heredoc) (marks : List Mark) (mark : Mark) (more : List Mark) → drop (length done) marks ≡ mark ∷ more → drop (length (done ++ heredoc ∷ [])) marks ≡ more
next_left done heredoc marks mark more h = let e : length (done ++ heredoc ∷ []) ≡ suc (length done) = omega (arith, length-append done (heredoc ∷ [])) in ap (λ n. drop n marks) e ∙ (next_of (length done) marks mark more h).1

pub bodies_walk : (more_marks : List Mark) (r : FileState) (n : ℕ) (text : List ℕ) (marks : List Mark) (done : List Heredoc) (mark : Mark) (lines more : List (List ℕ)) (heredocs : List Heredoc)
    → drop (length done) marks ≡ mark ∷ more_marks → AreBodies (mark ∷ more_marks) lines heredocs
    → after_lines (at_position r (Bodies (begun n text marks done mark))) (lines ++ more) ≡ after_lines (complete_line (on r (length lines)) n text (done ++ heredocs)) more
bodies_walk more_marks r n text marks done mark lines more [] left h = absurd h
bodies_walk [] r n text marks done mark lines more (heredoc ∷ []) left h =
    let is : lines ≡ h.0 ++ h.1 ∷ [] = h.3 ∙ ap (λ x. h.0 ++ h.1 ∷ x) h.7 in
    let walk : after_lines (at_position r (Bodies (begun n text marks done mark))) ((h.0 ++ h.1 ∷ []) ++ more) ≡ after_lines (complete_line (on r (length (h.0 ++ h.1 ∷ []))) n text (done ++ heredoc_of mark h.0 ∷ [])) more =
    ap (after_lines (at_position r (Bodies (begun n text marks done mark)))) (append_assoc h.0 (h.1 ∷ []) more)
    ∙ one_walk r n text marks done mark h.0 h.1 more None h.4 h.5 (next_mark done marks mark [] left) in
    ap (λ x. after_lines (at_position r (Bodies (begun n text marks done mark))) (x ++ more)) is
    ∙ walk
    ∙ ap₂ (λ (x : List (List ℕ)) (y : Heredoc). after_lines (complete_line (on r (length x)) n text (done ++ y ∷ [])) more) (sym is) (sym h.6)
bodies_walk [] r n text marks done mark lines more (heredoc ∷ other ∷ heredocs) left h = absurd h.7
bodies_walk (next ∷ next_marks) r n text marks done mark lines more (heredoc ∷ heredocs) left h =
    let front = h.0 ++ h.1 ∷ [] in
    let is : lines ≡ front ++ h.2 = h.3 ∙ sym (append_assoc h.0 (h.1 ∷ []) h.2) in
    let done_more = done ++ heredoc_of mark h.0 ∷ [] in
    let count : on (on r (length front)) (length h.2) ≡ on r (length lines) = on_by r ((r.count + length front) + length h.2) (r.count + length lines) (omega (arith, ap length is, length-append front h.2)) in
    let all : done_more ++ heredocs ≡ done ++ heredoc ∷ heredocs = append_assoc done (heredoc_of mark h.0 ∷ []) heredocs ∙ ap (λ x. done ++ x ∷ heredocs) (sym h.6) in
    ap (after_lines (at_position r (Bodies (begun n text marks done mark)))) (ap (λ x. x ++ more) h.3 ∙ append_assoc h.0 (h.1 ∷ h.2) more)
    ∙ one_walk r n text marks done mark h.0 h.1 (h.2 ++ more) (Some next) h.4 h.5 (next_mark done marks mark (next ∷ next_marks) left)
    ∙ bodies_walk next_marks (on r (length front)) n text marks done_more next h.2 more heredocs (next_left done (heredoc_of mark h.0) marks mark (next ∷ next_marks) left) h.7
    ∙ ap₂ (λ (s : FileState) (x : List Heredoc). after_lines (complete_line s n text x) more) count all

-- what the end of the text gives where a heredoc isn't closed
abbrev IsOpenEnd : FileState → ℕ → FileState → Type 0
IsOpenEnd r n end = (end.lines ≡ r.lines) × (end.faults ≡ r.faults ++ refusal R08 n ∷ [])

open_walk : (r : FileState) (n : ℕ) (text : List ℕ) (marks : List Mark) (done : List Heredoc) (mark : Mark) (lines : List (List ℕ)) → AreInside mark lines
    → IsOpenEnd r n (end_file (after_lines (at_position r (Bodies (begun n text marks done mark))) lines))
open_walk r n text marks done mark lines inside =
    let walk : after_lines (at_position r (Bodies (begun n text marks done mark))) lines ≡ at_position (on r (length lines)) (Bodies (record { number = n; text = text; marks = marks; heredocs = done; mark = mark; body = body_text mark lines })) =
    ap (after_lines (at_position r (Bodies (begun n text marks done mark)))) (sym (append-nil lines)) ∙ inside_walk lines r (begun n text marks done mark) [] inside in
    subst (λ (s : FileState). IsOpenEnd r n (end_file s)) (sym walk) (refl, refl)

unclosed_walk : (closed more_marks : List Mark) (r : FileState) (n : ℕ) (text : List ℕ) (marks : List Mark) (done : List Heredoc) (mark next : Mark) (bodies rest : List (List ℕ)) (heredocs : List Heredoc)
    → drop (length done) marks ≡ mark ∷ closed ++ next ∷ more_marks → AreBodies (mark ∷ closed) bodies heredocs → AreInside next rest
    → IsOpenEnd r n (end_file (after_lines (at_position r (Bodies (begun n text marks done mark))) (bodies ++ rest)))
unclosed_walk closed more_marks r n text marks done mark next bodies rest [] left are inside = absurd are
unclosed_walk [] more_marks r n text marks done mark next bodies rest (heredoc ∷ []) left are inside =
    let done_more = done ++ heredoc_of mark are.0 ∷ [] in
    let is : bodies ++ rest ≡ are.0 ++ are.1 ∷ rest = ap (λ x. x ++ rest) (are.3 ∙ ap (λ x. are.0 ++ are.1 ∷ x) are.7) ∙ append_assoc are.0 (are.1 ∷ []) rest in
    let walk : after_lines (at_position r (Bodies (begun n text marks done mark))) (bodies ++ rest) ≡ after_lines (at_position (on r (length (are.0 ++ are.1 ∷ []))) (Bodies (begun n text marks done_more next))) rest =
    ap (after_lines (at_position r (Bodies (begun n text marks done mark)))) is
    ∙ one_walk r n text marks done mark are.0 are.1 rest (Some next) are.4 are.5 (next_mark done marks mark (next ∷ more_marks) left) in
    subst (λ (s : FileState). IsOpenEnd r n (end_file s)) (sym walk) (open_walk (on r (length (are.0 ++ are.1 ∷ []))) n text marks done_more next rest inside)
unclosed_walk [] more_marks r n text marks done mark next bodies rest (heredoc ∷ other ∷ heredocs) left are inside = absurd are.7
unclosed_walk (second ∷ closed) more_marks r n text marks done mark next bodies rest (heredoc ∷ heredocs) left are inside =
    let done_more = done ++ heredoc_of mark are.0 ∷ [] in
    let is : bodies ++ rest ≡ are.0 ++ are.1 ∷ (are.2 ++ rest) = ap (λ x. x ++ rest) are.3 ∙ append_assoc are.0 (are.1 ∷ are.2) rest in
    let walk : after_lines (at_position r (Bodies (begun n text marks done mark))) (bodies ++ rest) ≡ after_lines (at_position (on r (length (are.0 ++ are.1 ∷ []))) (Bodies (begun n text marks done_more second))) (are.2 ++ rest) =
    ap (after_lines (at_position r (Bodies (begun n text marks done mark)))) is
    ∙ one_walk r n text marks done mark are.0 are.1 (are.2 ++ rest) (Some second) are.4 are.5 (next_mark done marks mark (second ∷ closed ++ next ∷ more_marks) left) in
    subst (λ (s : FileState). IsOpenEnd r n (end_file s)) (sym walk)
    (unclosed_walk closed more_marks (on r (length (are.0 ++ are.1 ∷ []))) n text marks done_more second next are.2 rest heredocs (next_left done (heredoc_of mark are.0) marks mark (second ∷ closed ++ next ∷ more_marks) left) are.7 inside)

-- the limit of logical lines, where so many stand above
abbrev pub limit_faults : ℕ → ℕ → List Refusal
limit_faults count n = if count == most_lines then refusal R18 n ∷ [] else []

abbrev pub limits_from : ℕ → List ℕ → List Refusal
limits_from count [] = []
limits_from count (n ∷ ns) = limit_faults count n ++ limits_from (count + 1) ns

pub limits_past : (count : ℕ) (ns : List ℕ) → most_lines < count → limits_from count ns ≡ []
limits_past count [] h = refl
limits_past count (n ∷ ns) h =
    let no : (count == most_lines) ≡ false = grind (arith, nat_tests) in
    ap (λ b. (if b then refusal R18 n ∷ [] else []) ++ limits_from (count + 1) ns) no ∙ limits_past (count + 1) ns (omega arith)

pub limits_at : (left count : ℕ) (ns : List ℕ) → count + left ≡ most_lines → limits_from count ns ≡ refused_at R18 (slice_get ns left)
limits_at zero count [] h = refl
limits_at (suc left) count [] h = refl
limits_at zero count (n ∷ ns) h =
    let yes : (count == most_lines) ≡ true = grind (arith, nat_tests) in
    ap₂ (λ (b : Bool) (x : List Refusal). (if b then refusal R18 n ∷ [] else []) ++ x) yes (limits_past (count + 1) ns (omega arith))
limits_at (suc left) count (n ∷ ns) h =
    let no : (count == most_lines) ≡ false = grind (arith, nat_tests) in
    ap (λ b. (if b then refusal R18 n ∷ [] else []) ++ limits_from (count + 1) ns) no ∙ limits_at left (count + 1) ns (omega arith)

pub limited_is : (escape : character.Escape) (count : ℕ) (found : List Line) (faults : List Refusal) (n : ℕ) → refuse_past_limit (base escape count found faults) n ≡ base escape count found (faults ++ limit_faults (length found) n)
limited_is escape count found faults n = by (length found == most_lines)
  where
    by : (b : Bool) → (if b then with_fault (base escape count found faults) R18 n else base escape count found faults) ≡ base escape count found (faults ++ (if b then refusal R18 n ∷ [] else []))
    by true = refl
    by false = ap (base escape count found) (sym (append-nil faults))

-- what blocks give after lines and faults that were found above them
pub record AreGiven (above : List Line) (faults : List Refusal) (found : List Line) (unclosed : Option ℕ) (end : FileState) : Type 0 where
  pub lines : end.lines ≡ above ++ found
  pub wrong : end.faults ≡ faults ++ (limits_from (length above) (numbers_of found unclosed) ++ refused_at R08 unclosed)

given_more : (above : List Line) (faults : List Refusal) (line : Line) (found : List Line) (unclosed : Option ℕ) (end : FileState)
    → AreGiven (above ++ line ∷ []) (faults ++ limit_faults (length above) line.number) found unclosed end → AreGiven above faults (line ∷ found) unclosed end
given_more above faults line found unclosed end h =
    let ns = numbers_of found unclosed in
    let limit = limit_faults (length above) line.number in
    let last = refused_at R08 unclosed in
    let rest = limits_from (length above + 1) ns in
    record {
      lines = h.lines ∙ append_assoc above (line ∷ []) found;
      wrong = h.wrong
          ∙ ap (λ k. (faults ++ limit) ++ (limits_from k ns ++ last)) (length-append above (line ∷ []))
          ∙ append_assoc faults limit (rest ++ last)
          ∙ ap (λ x. faults ++ x) (sym (append_assoc limit rest last));
    }

-- the heredocs of a logical line, and the blocks below it

abbrev pub GiveRest : character.Escape → ℕ → List (List ℕ) → List Line → Option ℕ → Type 0
GiveRest escape count rest found unclosed = (above : List Line) (faults : List Refusal) → AreGiven above faults found unclosed (end_file (after_lines (base escape count above faults) rest))

completed_given : (escape : character.Escape) (count : ℕ) (above : List Line) (faults : List Refusal) (n : ℕ) (text : List ℕ) (heredocs : List Heredoc) (rest : List (List ℕ)) (found : List Line) (unclosed : Option ℕ)
    → GiveRest escape count rest found unclosed
    → AreGiven above faults ((record { number = n; text = text; heredocs = heredocs; escape = escape }) ∷ found) unclosed (end_file (after_lines (complete_line (base escape count above (faults ++ limit_faults (length above) n)) n text heredocs) rest))
completed_given escape count above faults n text heredocs rest found unclosed more =
    let line : Line = record { number = n; text = text; heredocs = heredocs; escape = escape } in
    given_more above faults line found unclosed (end_file (after_lines (base escape count (above ++ line ∷ []) (faults ++ limit_faults (length above) n)) rest)) (more (above ++ line ∷ []) (faults ++ limit_faults (length above) n))

opened_given : (marks : List Mark) (escape : character.Escape) (count : ℕ) (above : List Line) (faults : List Refusal) (n : ℕ) (text : List ℕ) (bodies rest : List (List ℕ)) (heredocs : List Heredoc) (found : List Line) (unclosed : Option ℕ)
    → AreBodies marks bodies heredocs → GiveRest escape (count + length bodies) rest found unclosed
    → AreGiven above faults ((record { number = n; text = text; heredocs = heredocs; escape = escape }) ∷ found) unclosed
    (end_file (after_lines (open_heredocs (base escape count above (faults ++ limit_faults (length above) n)) n text marks) (bodies ++ rest)))
opened_given [] escape count above faults n text bodies rest (heredoc ∷ heredocs) found unclosed are more = absurd are
opened_given [] escape count above faults n text bodies rest [] found unclosed are more =
    let none_more : GiveRest escape count rest found unclosed = subst (λ k. GiveRest escape k rest found unclosed) (ap (λ (x : List (List ℕ)). count + length x) are ∙ omega arith) more in
    subst (λ (x : List (List ℕ)). AreGiven above faults ((record { number = n; text = text; heredocs = []; escape = escape }) ∷ found) unclosed (end_file (after_lines (complete_line (base escape count above (faults ++ limit_faults (length above) n)) n text []) (x ++ rest)))) (sym are)
    (completed_given escape count above faults n text [] rest found unclosed none_more)
opened_given (mark ∷ marks) escape count above faults n text bodies rest heredocs found unclosed are more =
    let r = base escape count above (faults ++ limit_faults (length above) n) in
    let walk = bodies_walk marks r n text (mark ∷ marks) [] mark bodies rest heredocs refl are in
    subst (λ (s : FileState). AreGiven above faults ((record { number = n; text = text; heredocs = heredocs; escape = escape }) ∷ found) unclosed (end_file s)) (sym walk)
    (completed_given escape (count + length bodies) above faults n text heredocs rest found unclosed more)

closed_given : (text : List ℕ) (escape : character.Escape) (count : ℕ) (above : List Line) (faults : List Refusal) (n : ℕ) (bodies rest : List (List ℕ)) (heredocs : List Heredoc) (found : List Line) (unclosed : Option ℕ)
    → AreBodies (marks_of text) bodies heredocs → GiveRest escape (count + length bodies) rest found unclosed
    → AreGiven above faults (line_of n escape text heredocs ++ found) unclosed (end_file (after_lines (close_line (base escape count above faults) n text) (bodies ++ rest)))
closed_given [] escape count above faults n bodies rest (heredoc ∷ heredocs) found unclosed are more = absurd are
closed_given [] escape count above faults n bodies rest [] found unclosed are more =
    let none_more : GiveRest escape count rest found unclosed = subst (λ k. GiveRest escape k rest found unclosed) (ap (λ (x : List (List ℕ)). count + length x) are ∙ omega arith) more in
    subst (λ (x : List (List ℕ)). AreGiven above faults found unclosed (end_file (after_lines (base escape count above faults) (x ++ rest)))) (sym are) (none_more above faults)
closed_given (c ∷ cs) escape count above faults n bodies rest heredocs found unclosed are more =
    subst (λ (s : FileState). AreGiven above faults (line_of n escape (c ∷ cs) heredocs ++ found) unclosed (end_file (after_lines (open_heredocs s n (c ∷ cs) (marks_of (c ∷ cs))) (bodies ++ rest)))) (sym (limited_is escape count above faults n))
    (opened_given (marks_of (c ∷ cs)) escape count above faults n (c ∷ cs) bodies rest heredocs found unclosed are more)

opened_end : (closed : List Mark) (escape : character.Escape) (count : ℕ) (above : List Line) (faults : List Refusal) (n : ℕ) (text : List ℕ) (next : Mark) (more : List Mark) (bodies rest : List (List ℕ)) (heredocs : List Heredoc)
    → AreBodies closed bodies heredocs → AreInside next rest
    → IsOpenEnd (base escape count above faults) n (end_file (after_lines (open_heredocs (base escape count above faults) n text (closed ++ next ∷ more)) (bodies ++ rest)))
opened_end [] escape count above faults n text next more bodies rest (heredoc ∷ heredocs) are inside = absurd are
opened_end [] escape count above faults n text next more bodies rest [] are inside =
    let r = base escape count above faults in
    subst (λ (x : List (List ℕ)). IsOpenEnd r n (end_file (after_lines (open_heredocs r n text (next ∷ more)) (x ++ rest)))) (sym are) (open_walk r n text (next ∷ more) [] next rest inside)
opened_end (mark ∷ closed) escape count above faults n text next more bodies rest heredocs are inside =
    unclosed_walk closed more (base escape count above faults) n text (mark ∷ closed ++ next ∷ more) [] mark next bodies rest heredocs refl are inside

unclosed_end : (marks : List Mark) (escape : character.Escape) (count : ℕ) (above : List Line) (faults : List Refusal) (n : ℕ) (text : List ℕ) (lines : List (List ℕ)) → AreUnclosed marks lines
    → AreGiven above faults [] (Some n) (end_file (after_lines (open_heredocs (base escape count above (faults ++ limit_faults (length above) n)) n text marks) lines))
unclosed_end marks escape count above faults n text lines u =
    let limit = limit_faults (length above) n in
    let r = base escape count above (faults ++ limit) in
    let end : IsOpenEnd r n (end_file (after_lines (open_heredocs r n text marks) lines)) =
    subst (λ (x : List Mark). IsOpenEnd r n (end_file (after_lines (open_heredocs r n text x) lines))) (sym u.order)
    (subst (λ (x : List (List ℕ)). IsOpenEnd r n (end_file (after_lines (open_heredocs r n text (u.closed ++ u.mark ∷ u.more)) x))) (sym u.cut)
    (opened_end u.closed escape count above (faults ++ limit) n text u.mark u.more u.bodies u.rest u.heredocs u.are u.inside)) in
    record {
      lines = end.0 ∙ sym (append-nil above);
      wrong = end.1 ∙ append_assoc faults limit (refusal R08 n ∷ []) ∙ ap (λ (x : List Refusal). faults ++ (x ++ refusal R08 n ∷ [])) (sym (append-nil limit));
    }

pub no_marks_left : (closed : List Mark) (mark : Mark) (more : List Mark) → [] ≡ closed ++ mark ∷ more → ⊥
no_marks_left [] mark more h = cc
no_marks_left (m ∷ ms) mark more h = cc

closed_end : (text : List ℕ) (escape : character.Escape) (count : ℕ) (above : List Line) (faults : List Refusal) (n : ℕ) (rest : List (List ℕ)) → AreUnclosed (marks_of text) rest
    → AreGiven above faults [] (Some n) (end_file (after_lines (close_line (base escape count above faults) n text) rest))
closed_end [] escape count above faults n rest h = absurd (no_marks_left h.closed h.mark h.more h.order)
closed_end (c ∷ cs) escape count above faults n rest h =
    subst (λ (s : FileState). AreGiven above faults [] (Some n) (end_file (after_lines (open_heredocs s n (c ∷ cs) (marks_of (c ∷ cs))) rest))) (sym (limited_is escape count above faults n))
    (unclosed_end (marks_of (c ∷ cs)) escape count above faults n (c ∷ cs) rest h)

-- all blocks

pub blocks_given : (escape : character.Escape) (count : ℕ) (lines : List (List ℕ)) (found : List Line) (unclosed : Option ℕ) → AreBlocks escape count lines found unclosed → GiveRest escape count lines found unclosed
blocks_given escape _ _ _ _ (none count) above faults = record { lines = sym (append-nil above); wrong = sym (append-nil faults) }
blocks_given escape _ _ _ _ (dropped count line lines found unclosed skipped more) above faults =
    subst (λ (s : FileState). AreGiven above faults found unclosed (end_file (after_lines s lines))) (sym (between_dropped (base escape count above faults) line skipped))
    (blocks_given escape (count + 1) lines found unclosed more above faults)
blocks_given escape _ _ _ _ (logical count lines own bodies rest heredocs found unclosed is kept joined are more) above faults =
    let text = joined_text (byte_of escape) own in
    let size : count + length (own ++ bodies) ≡ (count + length own) + length bodies = omega (arith, length-append own bodies) in
    let give : GiveRest escape ((count + length own) + length bodies) rest found unclosed =
    subst (λ k. GiveRest escape k rest found unclosed) size (blocks_given escape (count + length (own ++ bodies)) rest found unclosed more) in
    let walk = ap (λ x. end_file (after_lines (base escape count above faults) x)) is ∙ logical_walk (base escape count above faults) own (bodies ++ rest) kept joined in
    subst (AreGiven above faults (line_of (count + 1) escape text heredocs ++ found) unclosed) (sym walk)
    (closed_given text escape (count + length own) above faults (count + 1) bodies rest heredocs found unclosed are give)
blocks_given escape _ _ _ _ (open_ended count lines own rest is kept joined unclosed) above faults =
    let walk = ap (λ x. end_file (after_lines (base escape count above faults) x)) is ∙ logical_walk (base escape count above faults) own rest kept joined in
    subst (AreGiven above faults [] (Some (count + 1))) (sym walk)
    (closed_end (joined_text (byte_of escape) own) escape (count + length own) above faults (count + 1) rest unclosed)
