-- Laws of a file of which more may come: reading its lines one by one gives what its structure gives.
use Rattle.std.specs.Prelude.{◌≡◌, ℕ, ◌+◌, List, [], ◌∷◌, ◌++◌, Option, Some, length, drop, map, refl}
use Rattle.std.specs.List.{concat}
use Rattle.std.proofs.Common.{sym, ◌∙◌, ap, ap₂, subst, append_assoc, arith}
use Rattle.std.proofs.lemmas.List.{append-nil, length-append}
use Rattle.plain.specs.declared.refusal.Refusal.{Refusal}
use Rattle.ascii.specs.Blanks.{trimmed}
use Rattle.lines.specs.Escape.{byte_of}
use Rattle.lines.specs.File.{BeginsKept, part_of, joined_text, AreInside, heredoc_of, AreBodies, AreUnclosed, line_of, numbers_of}
use Rattle.lines.specs.Ready.{AreEnded, AllGoOn, number_if_text, AreBegun, nothing, skips, ends, continues, remains}
use Rattle.lines.proofs.ScanLaws.{faults_so_far, opened_faults}
use Rattle.lines.proofs.BlockLaws.{base, on, on_by, within_on, within_off, between_kept, between_dropped, closed_position, begun, body_text, inside_walk, one_walk, next_mark, next_left, bodies_walk, limit_faults, limits_from, limited_is, no_marks_left}
use Rattle.lines.specs.Marks.{marks_of}
use Rattle.lines.specs.PrivateSteps.{at_position, count_line, complete_line, open_heredocs, close_line, after_lines}
use Rattle.lines.specs.declared.escape.Escape as character
use Rattle.lines.specs.declared.line.Heredoc.{Heredoc}
use Rattle.lines.specs.declared.line.Line.{Line}
use Rattle.lines.specs.declared.line.Mark.{Mark}
use Rattle.lines.specs.declared.state.Pending.{Pending}
use Rattle.lines.specs.declared.state.Position.TheVariants.{Between, Within, Bodies}
use Rattle.lines.specs.declared.state.FileState.{FileState}

-- the lines of a logical line

within_walk : (lines : List (List ℕ)) (r : FileState) (p : Pending) (line : List ℕ) (more : List (List ℕ)) → AreEnded (byte_of r.escape) (line ∷ lines)
    → after_lines (at_position r (Within p)) ((line ∷ lines) ++ more)
    ≡ after_lines (close_line (on r (length (line ∷ lines))) p.number (trimmed (p.text ++ concat (map (part_of (byte_of r.escape)) (line ∷ lines))))) more
within_walk [] r p line more h =
    ap (λ (s : FileState). after_lines s more) (within_off r p line h)
    ∙ ap (λ t. after_lines (close_line (count_line r) p.number (trimmed (p.text ++ t))) more) (sym (append-nil (part_of (byte_of r.escape) line)))
within_walk (next ∷ lines) r p line more h =
    let part = part_of (byte_of r.escape) line in
    let parts = concat (map (part_of (byte_of r.escape)) (next ∷ lines)) in
    let count : on (count_line r) (length (next ∷ lines)) ≡ on r (length (line ∷ next ∷ lines)) = on_by r ((r.count + 1) + length (next ∷ lines)) (r.count + length (line ∷ next ∷ lines)) (omega arith) in
    ap (λ (s : FileState). after_lines s ((next ∷ lines) ++ more)) (within_on r p line h.0)
    ∙ within_walk lines (count_line r) (record { number = p.number; text = p.text ++ part }) next more h.1
    ∙ ap₂ (λ (s : FileState) (t : List ℕ). after_lines (close_line s p.number (trimmed t)) more) count (append_assoc p.text part parts)

logical_walk : (r : FileState) (own more : List (List ℕ)) → BeginsKept own → AreEnded (byte_of r.escape) own
    → after_lines (at_position r Between) (own ++ more) ≡ after_lines (close_line (on r (length own)) (r.count + 1) (joined_text (byte_of r.escape) own)) more
logical_walk r [] more kept h = absurd kept
logical_walk r (line ∷ lines) more kept h =
    ap (λ (s : FileState). after_lines s (lines ++ more)) (between_kept r line kept) ∙ within_walk lines r (record { number = r.count + 1; text = [] }) line more h

-- a logical line that goes on

going_walk : (lines : List (List ℕ)) (r : FileState) (p : Pending) → AllGoOn (byte_of r.escape) lines
    → after_lines (at_position r (Within p)) lines ≡ at_position (on r (length lines)) (Within (record { number = p.number; text = p.text ++ concat (map (part_of (byte_of r.escape)) lines) }))
going_walk [] r p h = ap₂ (λ (n : ℕ) (t : List ℕ). record r { count = n; position = Within (record { number = p.number; text = t }) }) (omega arith) (sym (append-nil p.text))
going_walk (line ∷ lines) r p h =
    let part = part_of (byte_of r.escape) line in
    let parts = concat (map (part_of (byte_of r.escape)) lines) in
    ap (λ (s : FileState). after_lines s lines) (within_on r p line h.0)
    ∙ going_walk lines (count_line r) (record { number = p.number; text = p.text ++ part }) h.1
    ∙ ap₂ (λ (n : ℕ) (t : List ℕ). record r { count = n; position = Within (record { number = p.number; text = t }) }) (omega arith) (append_assoc p.text part parts)

-- what is wrong where the lines of a logical line end in a text
closed_so_far : (escape : character.Escape) (count : ℕ) (above : List Line) (faults : List Refusal) (n : ℕ) (text : List ℕ)
    → (close_line (base escape count above faults) n text).faults ≡ faults ++ limits_from (length above) (numbers_of [] (number_if_text n text))
closed_so_far escape count above faults n [] = sym (append-nil faults)
closed_so_far escape count above faults n (c ∷ cs) =
    ap (λ (s : FileState). (open_heredocs s n (c ∷ cs) (marks_of (c ∷ cs))).faults) (limited_is escape count above faults n)
    ∙ opened_faults (base escape count above (faults ++ limit_faults (length above) n)) n (c ∷ cs) (marks_of (c ∷ cs))
    ∙ ap (λ (x : List Refusal). faults ++ x) (sym (append-nil (limit_faults (length above) n)))

continued_walk : (escape : character.Escape) (count : ℕ) (above : List Line) (faults : List Refusal) (lines : List (List ℕ)) → BeginsKept lines → AllGoOn (byte_of escape) lines
    → after_lines (base escape count above faults) lines
    ≡ at_position (on (base escape count above faults) (length lines)) (Within (record { number = count + 1; text = concat (map (part_of (byte_of escape)) lines) }))
continued_walk escape count above faults [] kept h = absurd kept
continued_walk escape count above faults (line ∷ lines) kept h =
    ap (λ (s : FileState). after_lines s lines) (between_kept (base escape count above faults) line kept)
    ∙ going_walk (line ∷ lines) (base escape count above faults) (record { number = count + 1; text = [] }) h

-- a heredoc that isn't closed
abbrev IsOpenEnd : FileState → ℕ → FileState → Type 0
IsOpenEnd r n end = (end.lines ≡ r.lines) × (faults_so_far end ≡ r.faults)

open_walk : (r : FileState) (n : ℕ) (text : List ℕ) (marks : List Mark) (done : List Heredoc) (mark : Mark) (lines : List (List ℕ)) → AreInside mark lines
    → IsOpenEnd r n ((after_lines (at_position r (Bodies (begun n text marks done mark))) lines))
open_walk r n text marks done mark lines inside =
    let walk : after_lines (at_position r (Bodies (begun n text marks done mark))) lines ≡ at_position (on r (length lines)) (Bodies (record { number = n; text = text; marks = marks; heredocs = done; mark = mark; body = body_text mark lines })) =
    ap (after_lines (at_position r (Bodies (begun n text marks done mark)))) (sym (append-nil lines)) ∙ inside_walk lines r (begun n text marks done mark) [] inside in
    subst (λ (s : FileState). IsOpenEnd r n s) (sym walk) (refl, refl)

unclosed_walk : (closed more_marks : List Mark) (r : FileState) (n : ℕ) (text : List ℕ) (marks : List Mark) (done : List Heredoc) (mark next : Mark) (bodies rest : List (List ℕ)) (heredocs : List Heredoc)
    → drop (length done) marks ≡ mark ∷ closed ++ next ∷ more_marks → AreBodies (mark ∷ closed) bodies heredocs → AreInside next rest
    → IsOpenEnd r n ((after_lines (at_position r (Bodies (begun n text marks done mark))) (bodies ++ rest)))
unclosed_walk closed more_marks r n text marks done mark next bodies rest [] left are inside = absurd are
unclosed_walk [] more_marks r n text marks done mark next bodies rest (heredoc ∷ []) left are inside =
    let done_more = done ++ heredoc_of mark are.0 ∷ [] in
    let is : bodies ++ rest ≡ are.0 ++ are.1 ∷ rest = ap (λ x. x ++ rest) (are.3 ∙ ap (λ x. are.0 ++ are.1 ∷ x) are.7) ∙ append_assoc are.0 (are.1 ∷ []) rest in
    let walk : after_lines (at_position r (Bodies (begun n text marks done mark))) (bodies ++ rest) ≡ after_lines (at_position (on r (length (are.0 ++ are.1 ∷ []))) (Bodies (begun n text marks done_more next))) rest =
    ap (after_lines (at_position r (Bodies (begun n text marks done mark)))) is
    ∙ one_walk r n text marks done mark are.0 are.1 rest (Some next) are.4 are.5 (next_mark done marks mark (next ∷ more_marks) left) in
    subst (λ (s : FileState). IsOpenEnd r n s) (sym walk) (open_walk (on r (length (are.0 ++ are.1 ∷ []))) n text marks done_more next rest inside)
unclosed_walk [] more_marks r n text marks done mark next bodies rest (heredoc ∷ other ∷ heredocs) left are inside = absurd are.7
unclosed_walk (second ∷ closed) more_marks r n text marks done mark next bodies rest (heredoc ∷ heredocs) left are inside =
    let done_more = done ++ heredoc_of mark are.0 ∷ [] in
    let is : bodies ++ rest ≡ are.0 ++ are.1 ∷ (are.2 ++ rest) = ap (λ x. x ++ rest) are.3 ∙ append_assoc are.0 (are.1 ∷ are.2) rest in
    let walk : after_lines (at_position r (Bodies (begun n text marks done mark))) (bodies ++ rest) ≡ after_lines (at_position (on r (length (are.0 ++ are.1 ∷ []))) (Bodies (begun n text marks done_more second))) (are.2 ++ rest) =
    ap (after_lines (at_position r (Bodies (begun n text marks done mark)))) is
    ∙ one_walk r n text marks done mark are.0 are.1 (are.2 ++ rest) (Some second) are.4 are.5 (next_mark done marks mark (second ∷ closed ++ next ∷ more_marks) left) in
    subst (λ (s : FileState). IsOpenEnd r n s) (sym walk)
    (unclosed_walk closed more_marks (on r (length (are.0 ++ are.1 ∷ []))) n text marks done_more second next are.2 rest heredocs (next_left done (heredoc_of mark are.0) marks mark (second ∷ closed ++ next ∷ more_marks) left) are.7 inside)

-- what blocks give after lines and faults that were found above them
pub record AreGiven (above : List Line) (faults : List Refusal) (found : List Line) (unclosed : Option ℕ) (end : FileState) : Type 0 where
  pub lines : end.lines ≡ above ++ found
  pub wrong : faults_so_far end ≡ faults ++ limits_from (length above) (numbers_of found unclosed)

given_more : (above : List Line) (faults : List Refusal) (line : Line) (found : List Line) (unclosed : Option ℕ) (end : FileState)
    → AreGiven (above ++ line ∷ []) (faults ++ limit_faults (length above) line.number) found unclosed end → AreGiven above faults (line ∷ found) unclosed end
given_more above faults line found unclosed end h =
    let ns = numbers_of found unclosed in
    let limit = limit_faults (length above) line.number in
    record {
      lines = h.lines ∙ append_assoc above (line ∷ []) found;
      wrong = h.wrong
          ∙ ap (λ k. (faults ++ limit) ++ limits_from k ns) (length-append above (line ∷ []))
          ∙ append_assoc faults limit (limits_from (length above + 1) ns);
    }

-- the heredocs of a logical line, and the blocks below it

abbrev pub GiveRest : character.Escape → ℕ → List (List ℕ) → List Line → Option ℕ → Type 0
GiveRest escape count rest found unclosed = (above : List Line) (faults : List Refusal) → AreGiven above faults found unclosed ((after_lines (base escape count above faults) rest))

completed_given : (escape : character.Escape) (count : ℕ) (above : List Line) (faults : List Refusal) (n : ℕ) (text : List ℕ) (heredocs : List Heredoc) (rest : List (List ℕ)) (found : List Line) (unclosed : Option ℕ)
    → GiveRest escape count rest found unclosed
    → AreGiven above faults ((record { number = n; text = text; heredocs = heredocs; escape = escape }) ∷ found) unclosed ((after_lines (complete_line (base escape count above (faults ++ limit_faults (length above) n)) n text heredocs) rest))
completed_given escape count above faults n text heredocs rest found unclosed more =
    let line : Line = record { number = n; text = text; heredocs = heredocs; escape = escape } in
    given_more above faults line found unclosed ((after_lines (base escape count (above ++ line ∷ []) (faults ++ limit_faults (length above) n)) rest)) (more (above ++ line ∷ []) (faults ++ limit_faults (length above) n))

opened_given : (marks : List Mark) (escape : character.Escape) (count : ℕ) (above : List Line) (faults : List Refusal) (n : ℕ) (text : List ℕ) (bodies rest : List (List ℕ)) (heredocs : List Heredoc) (found : List Line) (unclosed : Option ℕ)
    → AreBodies marks bodies heredocs → GiveRest escape (count + length bodies) rest found unclosed
    → AreGiven above faults ((record { number = n; text = text; heredocs = heredocs; escape = escape }) ∷ found) unclosed
    ((after_lines (open_heredocs (base escape count above (faults ++ limit_faults (length above) n)) n text marks) (bodies ++ rest)))
opened_given [] escape count above faults n text bodies rest (heredoc ∷ heredocs) found unclosed are more = absurd are
opened_given [] escape count above faults n text bodies rest [] found unclosed are more =
    let none_more : GiveRest escape count rest found unclosed = subst (λ k. GiveRest escape k rest found unclosed) (ap (λ (x : List (List ℕ)). count + length x) are ∙ omega arith) more in
    subst (λ (x : List (List ℕ)). AreGiven above faults ((record { number = n; text = text; heredocs = []; escape = escape }) ∷ found) unclosed ((after_lines (complete_line (base escape count above (faults ++ limit_faults (length above) n)) n text []) (x ++ rest)))) (sym are)
    (completed_given escape count above faults n text [] rest found unclosed none_more)
opened_given (mark ∷ marks) escape count above faults n text bodies rest heredocs found unclosed are more =
    let r = base escape count above (faults ++ limit_faults (length above) n) in
    let walk = bodies_walk marks r n text (mark ∷ marks) [] mark bodies rest heredocs refl are in
    subst (λ (s : FileState). AreGiven above faults ((record { number = n; text = text; heredocs = heredocs; escape = escape }) ∷ found) unclosed s) (sym walk)
    (completed_given escape (count + length bodies) above faults n text heredocs rest found unclosed more)

closed_given : (text : List ℕ) (escape : character.Escape) (count : ℕ) (above : List Line) (faults : List Refusal) (n : ℕ) (bodies rest : List (List ℕ)) (heredocs : List Heredoc) (found : List Line) (unclosed : Option ℕ)
    → AreBodies (marks_of text) bodies heredocs → GiveRest escape (count + length bodies) rest found unclosed
    → AreGiven above faults (line_of n escape text heredocs ++ found) unclosed ((after_lines (close_line (base escape count above faults) n text) (bodies ++ rest)))
closed_given [] escape count above faults n bodies rest (heredoc ∷ heredocs) found unclosed are more = absurd are
closed_given [] escape count above faults n bodies rest [] found unclosed are more =
    let none_more : GiveRest escape count rest found unclosed = subst (λ k. GiveRest escape k rest found unclosed) (ap (λ (x : List (List ℕ)). count + length x) are ∙ omega arith) more in
    subst (λ (x : List (List ℕ)). AreGiven above faults found unclosed ((after_lines (base escape count above faults) (x ++ rest)))) (sym are) (none_more above faults)
closed_given (c ∷ cs) escape count above faults n bodies rest heredocs found unclosed are more =
    subst (λ (s : FileState). AreGiven above faults (line_of n escape (c ∷ cs) heredocs ++ found) unclosed ((after_lines (open_heredocs s n (c ∷ cs) (marks_of (c ∷ cs))) (bodies ++ rest)))) (sym (limited_is escape count above faults n))
    (opened_given (marks_of (c ∷ cs)) escape count above faults n (c ∷ cs) bodies rest heredocs found unclosed are more)

opened_end : (closed : List Mark) (escape : character.Escape) (count : ℕ) (above : List Line) (faults : List Refusal) (n : ℕ) (text : List ℕ) (next : Mark) (more : List Mark) (bodies rest : List (List ℕ)) (heredocs : List Heredoc)
    → AreBodies closed bodies heredocs → AreInside next rest
    → IsOpenEnd (base escape count above faults) n ((after_lines (open_heredocs (base escape count above faults) n text (closed ++ next ∷ more)) (bodies ++ rest)))
opened_end [] escape count above faults n text next more bodies rest (heredoc ∷ heredocs) are inside = absurd are
opened_end [] escape count above faults n text next more bodies rest [] are inside =
    let r = base escape count above faults in
    subst (λ (x : List (List ℕ)). IsOpenEnd r n ((after_lines (open_heredocs r n text (next ∷ more)) (x ++ rest)))) (sym are) (open_walk r n text (next ∷ more) [] next rest inside)
opened_end (mark ∷ closed) escape count above faults n text next more bodies rest heredocs are inside =
    unclosed_walk closed more (base escape count above faults) n text (mark ∷ closed ++ next ∷ more) [] mark next bodies rest heredocs refl are inside

unclosed_end : (marks : List Mark) (escape : character.Escape) (count : ℕ) (above : List Line) (faults : List Refusal) (n : ℕ) (text : List ℕ) (lines : List (List ℕ)) → AreUnclosed marks lines
    → AreGiven above faults [] (Some n) ((after_lines (open_heredocs (base escape count above (faults ++ limit_faults (length above) n)) n text marks) lines))
unclosed_end marks escape count above faults n text lines u =
    let limit = limit_faults (length above) n in
    let r = base escape count above (faults ++ limit) in
    let end : IsOpenEnd r n ((after_lines (open_heredocs r n text marks) lines)) =
    subst (λ (x : List Mark). IsOpenEnd r n ((after_lines (open_heredocs r n text x) lines))) (sym u.order)
    (subst (λ (x : List (List ℕ)). IsOpenEnd r n ((after_lines (open_heredocs r n text (u.closed ++ u.mark ∷ u.more)) x))) (sym u.cut)
    (opened_end u.closed escape count above (faults ++ limit) n text u.mark u.more u.bodies u.rest u.heredocs u.are u.inside)) in
    record {
      lines = end.0 ∙ sym (append-nil above);
      wrong = end.1 ∙ ap (λ (x : List Refusal). faults ++ x) (sym (append-nil limit));
    }

closed_end : (text : List ℕ) (escape : character.Escape) (count : ℕ) (above : List Line) (faults : List Refusal) (n : ℕ) (rest : List (List ℕ)) → AreUnclosed (marks_of text) rest
    → AreGiven above faults [] (Some n) ((after_lines (close_line (base escape count above faults) n text) rest))
closed_end [] escape count above faults n rest h = absurd (no_marks_left h.closed h.mark h.more h.order)
closed_end (c ∷ cs) escape count above faults n rest h =
    subst (λ (s : FileState). AreGiven above faults [] (Some n) ((after_lines (open_heredocs s n (c ∷ cs) (marks_of (c ∷ cs))) rest))) (sym (limited_is escape count above faults n))
    (unclosed_end (marks_of (c ∷ cs)) escape count above faults n (c ∷ cs) rest h)

-- all blocks

pub begun_given : (escape : character.Escape) (count : ℕ) (lines : List (List ℕ)) (found : List Line) (unclosed : Option ℕ) → AreBegun escape count lines found unclosed → GiveRest escape count lines found unclosed
begun_given escape _ _ _ _ (nothing count) above faults = record { lines = sym (append-nil above); wrong = sym (append-nil faults) }
begun_given escape _ _ _ _ (skips count line lines found unclosed skipped more) above faults =
    subst (λ (s : FileState). AreGiven above faults found unclosed (after_lines s lines)) (sym (between_dropped (base escape count above faults) line skipped))
    (begun_given escape (count + 1) lines found unclosed more above faults)
begun_given escape _ _ _ _ (ends count lines own bodies rest heredocs found unclosed is kept joined are more) above faults =
    let text = joined_text (byte_of escape) own in
    let size : count + length (own ++ bodies) ≡ (count + length own) + length bodies = omega (arith, length-append own bodies) in
    let give : GiveRest escape ((count + length own) + length bodies) rest found unclosed =
    subst (λ k. GiveRest escape k rest found unclosed) size (begun_given escape (count + length (own ++ bodies)) rest found unclosed more) in
    let walk = ap (λ x. after_lines (base escape count above faults) x) is ∙ logical_walk (base escape count above faults) own (bodies ++ rest) kept joined in
    subst (AreGiven above faults (line_of (count + 1) escape text heredocs ++ found) unclosed) (sym walk)
    (closed_given text escape (count + length own) above faults (count + 1) bodies rest heredocs found unclosed are give)
begun_given escape _ _ _ _ (continues count lines kept going) above faults =
    let text = joined_text (byte_of escape) lines in
    let p : Pending = record { number = count + 1; text = concat (map (part_of (byte_of escape)) lines) } in
    let r = base escape (count + length lines) above faults in
    let wrong : (close_line (at_position r (Within p)) (count + 1) text).faults ≡ faults ++ limits_from (length above) (numbers_of [] (number_if_text (count + 1) text)) =
    ap (λ (s : FileState). s.faults) (closed_position r (Within p) (count + 1) text) ∙ closed_so_far escape (count + length lines) above faults (count + 1) text in
    subst (AreGiven above faults [] (number_if_text (count + 1) text)) (sym (continued_walk escape count above faults lines kept going))
    (record { lines = sym (append-nil above); wrong = wrong })
begun_given escape _ _ _ _ (remains count lines own rest is kept joined unclosed) above faults =
    let walk = ap (λ x. after_lines (base escape count above faults) x) is ∙ logical_walk (base escape count above faults) own rest kept joined in
    subst (AreGiven above faults [] (Some (count + 1))) (sym walk)
    (closed_end (joined_text (byte_of escape) own) escape (count + length own) above faults (count + 1) rest unclosed)
