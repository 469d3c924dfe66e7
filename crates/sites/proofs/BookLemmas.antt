-- A note of each call keeps the book true of the board, and so a seat says what the board has of its worker.
use Rattle.std.proofs.Common.{◌≡◌, ◌≢◌, ⊎_elim, ℕ, ◌==◌, ◌||◌, List, [], ◌∷◌, ◌++◌, length, Bool, true, false, cond, Option, Some, None, refl, sym, ap, ◌∙◌, subst, append_assoc}
use Rattle.std.specs.Prelude.{Contains, IsSome}
use Rattle.std.specs.List.{list_any}
use Rattle.std.proofs.lemmas.Bool.{cases_eq, eq-eqb, ne_eqb, or_right}
use Rattle.std.proofs.lemmas.List.Folds.{list_any_at, list_any-append}
use Rattle.std.proofs.lemmas.List.Sums.{fold-append}
use Rattle.trees.specs.TreeMap.{TreeMap}
use Rattle.plans.specs.Plan.{Problem, uses_at}
use Rattle.cachemounts.specs.declared.content.Content.{Content}
use Rattle.rolls.specs.declared.note.Note.{Note}
use Rattle.rolls.specs.declared.note.Told.{Told}
use Rattle.rolls.specs.declared.note.Note.TheVariants as note
use Rattle.rolls.specs.Rolls.{of_worker}
use Rattle.rolls.proofs.RollLemmas.{of_worker-here, of_worker-other}
use Rattle.plans.specs.Value.{Out}
use Rattle.board.specs.Board.{BoardValue, board_problem, IsStep}
use Rattle.board.specs.Job.{job_problem}
use Rattle.board.specs.Claim.{ClaimValue, IsOut, IsGivenBack, claim_out}
use Rattle.board.specs.Leaving.{lent_to}
use Rattle.board.specs.Legal.{settles, IsSettled, IsNextClaim}
use Rattle.board.specs.Play.{Run, Step, Claim, Settle, Abandon, Move, worker_of, step_of, next, moved, go, claimable, claim_of, vertex_of, value_at, IsReplay}
use Rattle.board.specs.Problem.{IsProblem}
use Rattle.board.proofs.ListLemmas.{claim_of-worker, claim_of-without}
use Rattle.board.proofs.StepLemmas.{other-stays, moved_claim, moved_settle, moved_abandon}
use Rattle.board.proofs.LeavingLemmas.{step-worker, lent_to-push, lent-other}
use Rattle.board.proofs.SoundLemmas.{replay-state}
use Rattle.board.specs.declared.claim.ClaimOut.{ClaimOut}
use Rattle.board.specs.declared.event.Happened.{Happened}
use Rattle.board.specs.declared.event.Happened.TheVariants.{Claimed, Settled, Abandoned}
use Rattle.sites.specs.Seats.{SeatValue, IsMine, GoesOnFrom, IsSeatOf, tally_of, empty_hand, after_note, hand_of, IsBook, loan_after, loan_of, AreLoans}

-- a note with what is lent
abbrev pub told : Note → List TreeMap → Told
told one lent = record { note = one; lent = lent }

-- a worker's hand after a note of its own, and of another
pub hand-push : (worker : ℕ) (notes : List Told) (one : Told) → hand_of worker (notes ++ one ∷ []) ≡ after_note worker (hand_of worker notes) one.note
hand-push worker notes one = fold-append (λ hand (told : Told). after_note worker hand told.note) empty_hand notes (one ∷ [])

hand-here : (roll : List (ℕ × Told)) (worker : ℕ) (one : Told) → hand_of worker (of_worker worker (roll ++ (worker, one) ∷ [])) ≡ after_note worker (hand_of worker (of_worker worker roll)) one.note
hand-here roll worker one = ap (hand_of worker) (of_worker-here roll worker one) ∙ hand-push worker (of_worker worker roll) one

hand-other : (roll : List (ℕ × Told)) (worker other : ℕ) (one : Told) → worker ≢ other → hand_of other (of_worker other (roll ++ (worker, one) ∷ [])) ≡ hand_of other (of_worker other roll)
hand-other roll worker other one apart = ap (hand_of other) (of_worker-other roll worker other one apart)

pub none-after : (xs : List ℕ) → xs ++ [] ≡ xs
none-after [] = refl
none-after (x ∷ xs) = ap (λ l. x ∷ l) (none-after xs)

-- a worker's tally after more events
pub tally-append : (worker : ℕ) (history more : List Happened) → tally_of worker (history ++ more) ≡ tally_of worker history ++ tally_of worker more
tally-append worker [] more = refl
tally-append worker (Claimed by vertex ∷ history) more = tally-append worker history more
tally-append worker (Settled by vertex given ∷ history) more = by_test (by == worker) (tally-append worker history more)
  where
    by_test : (b : Bool) → tally_of worker (history ++ more) ≡ tally_of worker history ++ tally_of worker more
        → cond b (vertex ∷ tally_of worker (history ++ more)) (tally_of worker (history ++ more)) ≡ cond b (vertex ∷ tally_of worker history) (tally_of worker history) ++ tally_of worker more
    by_test true e = ap (λ l. vertex ∷ l) e
    by_test false e = e
tally-append worker (Abandoned by vertex ∷ history) more = tally-append worker history more

tally-push : (worker : ℕ) (history : List Happened) (happened : Happened) → tally_of worker (history ++ happened ∷ []) ≡ tally_of worker history ++ tally_of worker (happened ∷ [])
tally-push worker history happened = tally-append worker history (happened ∷ [])

-- an event of another worker isn't in a worker's tally
tally-aside : (worker : ℕ) (happened : Happened) → worker_of (step_of happened) ≢ worker → tally_of worker (happened ∷ []) ≡ []
tally-aside worker (Claimed by vertex) apart = refl
tally-aside worker (Settled by vertex given) apart = ap (λ b. cond b (vertex ∷ []) []) (ne_eqb by worker apart)
tally-aside worker (Abandoned by vertex) apart = refl

-- a step of another worker leaves a worker's claim and tally as they are
other-claim : (problem : Problem) (run : Run) (step : Step) (worker : ℕ) → worker_of step ≢ worker → claim_of worker (go problem run step).state.claims ≡ claim_of worker run.state.claims
other-claim problem run step worker apart = by_move (next problem run step) refl
  where
    by_move : (o : Option Move) → next problem run step ≡ o → claim_of worker (moved run o).state.claims ≡ claim_of worker run.state.claims
    by_move None e = refl
    by_move (Some move) e = other-stays problem run step move worker e apart

other-tally : (problem : Problem) (run : Run) (step : Step) (worker : ℕ) → worker_of step ≢ worker → tally_of worker (go problem run step).history ≡ tally_of worker run.history
other-tally problem run step worker apart = by_move (next problem run step) refl
  where
    by_move : (o : Option Move) → next problem run step ≡ o → tally_of worker (moved run o).history ≡ tally_of worker run.history
    by_move None e = refl
    by_move (Some move) e =
        let aside = tally-aside worker move.happened (λ same. apart (sym (step-worker problem run step move e) ∙ same)) in
        tally-push worker run.history move.happened ∙ (ap (λ l. tally_of worker run.history ++ l) aside ∙ none-after (tally_of worker run.history))

-- a history that goes on from some events does so after a step
pub goes-on : (before : List Happened) (problem : Problem) (run : Run) (step : Step) → GoesOnFrom before run.history → GoesOnFrom before (go problem run step).history
goes-on before problem run step on = by_move (next problem run step)
  where
    by_move : (o : Option Move) → GoesOnFrom before (moved run o).history
    by_move None = on
    by_move (Some move) = (on.0 ++ move.happened ∷ [], ap (λ h. h ++ move.happened ∷ []) on.1 ∙ append_assoc before on.0 (move.happened ∷ []))

-- the book stays true where a step's note says what the step leaves its worker
book-note : (before : List Happened) (problem : Problem) (run : Run) (step : Step) (roll : List (ℕ × Told)) (one : Told) → IsBook before roll run
    → (after_note (worker_of step) (hand_of (worker_of step) (of_worker (worker_of step) roll)) one.note).out ≡ claim_of (worker_of step) (go problem run step).state.claims
    → tally_of (worker_of step) (go problem run step).history ≡ tally_of (worker_of step) before ++ (after_note (worker_of step) (hand_of (worker_of step) (of_worker (worker_of step) roll)) one.note).tally
    → IsBook before (roll ++ (worker_of step, one) ∷ []) (go problem run step)
book-note before problem run step roll one book out tally = record { since = goes-on before problem run step book.since; out = outs; tally = tallies }
  where
    more : List (ℕ × Told)
    more = roll ++ (worker_of step, one) ∷ []

    outs : (worker : ℕ) → (hand_of worker (of_worker worker more)).out ≡ claim_of worker (go problem run step).state.claims
    outs worker = ⊎_elim
        (λ (same : worker_of step ≡ worker). subst (λ w. (hand_of w (of_worker w more)).out ≡ claim_of w (go problem run step).state.claims) same (ap (λ h. h.out) (hand-here roll (worker_of step) one) ∙ out))
        (λ (apart : worker_of step ≢ worker). ap (λ h. h.out) (hand-other roll (worker_of step) worker one apart) ∙ (book.out worker ∙ sym (other-claim problem run step worker apart)))
        (cases_eq (worker_of step) worker)

    tallies : (worker : ℕ) → tally_of worker (go problem run step).history ≡ tally_of worker before ++ (hand_of worker (of_worker worker more)).tally
    tallies worker = ⊎_elim
        (λ (same : worker_of step ≡ worker). subst (λ w. tally_of w (go problem run step).history ≡ tally_of w before ++ (hand_of w (of_worker w more)).tally) same (tally ∙ sym (ap (λ h. tally_of (worker_of step) before ++ h.tally) (hand-here roll (worker_of step) one))))
        (λ (apart : worker_of step ≢ worker). other-tally problem run step worker apart ∙ (book.tally worker ∙ sym (ap (λ h. tally_of worker before ++ h.tally) (hand-other roll (worker_of step) worker one apart))))
        (cases_eq (worker_of step) worker)

-- a claim doesn't change its worker's tally
claim-tally : (problem : Problem) (run : Run) (worker : ℕ) → tally_of worker run.history ≡ tally_of worker (go problem run (Claim worker)).history
claim-tally problem run worker = by_move (next problem run (Claim worker)) refl
  where
    by_move : (o : Option Move) → next problem run (Claim worker) ≡ o → tally_of worker run.history ≡ tally_of worker (moved run o).history
    by_move None e = refl
    by_move (Some move) e =
        let m = moved_claim problem run worker (claimable problem run.state worker) move e in
        let pushed = tally-push worker run.history (Claimed worker m.0) ∙ none-after (tally_of worker run.history) in
        rw (← m.2) (sym pushed)

-- the book after a claim
pub book-claim : (before : List Happened) (problem : Problem) (run : Run) (roll : List (ℕ × Told)) (worker vertex at : ℕ) (lent : List TreeMap) → IsBook before roll run
    → claim_of worker (go problem run (Claim worker)).state.claims ≡ Some (record { worker = worker; vertex = vertex; at = at })
    → IsBook before (roll ++ (worker, told (note.Claimed vertex at) lent) ∷ []) (go problem run (Claim worker))
book-claim before problem run roll worker vertex at lent book out =
    book-note before problem run (Claim worker) roll (told (note.Claimed vertex at) lent) book (sym out) (sym (claim-tally problem run worker) ∙ book.tally worker)

-- the book after a settle of the claim that is out
pub book-settle : (before : List Happened) (problem : Problem) (run : Run) (roll : List (ℕ × Told)) (worker vertex at : ℕ) (given lent : List TreeMap) → IsBook before roll run
    → claim_of worker run.state.claims ≡ Some (record { worker = worker; vertex = vertex; at = at }) → length given ≡ length (uses_at problem vertex)
    → IsBook before (roll ++ (worker, told (note.Settled vertex) lent) ∷ []) (go problem run (Settle worker given))
book-settle before problem run roll worker vertex at given lent book out count =
    let mine = (hand_of worker (of_worker worker roll)).tally in
    let none : None ≡ claim_of worker (go problem run (Settle worker given)).state.claims =
    rw (out, eq-eqb _ _ count) (sym (claim_of-without worker worker run.state.claims ∙ rw (eq-eqb worker worker refl) refl)) in
    let pushed : tally_of worker (run.history ++ Settled worker vertex given ∷ []) ≡ tally_of worker run.history ++ vertex ∷ [] =
    tally-push worker run.history (Settled worker vertex given) ∙ rw (eq-eqb worker worker refl) refl in
    let more : tally_of worker (run.history ++ Settled worker vertex given ∷ []) ≡ tally_of worker before ++ (mine ++ vertex ∷ []) =
    pushed ∙ (ap (λ l. l ++ vertex ∷ []) (book.tally worker) ∙ append_assoc (tally_of worker before) mine (vertex ∷ [])) in
    let tally : tally_of worker (go problem run (Settle worker given)).history ≡ tally_of worker before ++ (mine ++ vertex ∷ []) = rw (out, eq-eqb _ _ count) more in
    book-note before problem run (Settle worker given) roll (told (note.Settled vertex) lent) book none tally

-- the book after an abandon of the claim that is out
pub book-abandon : (before : List Happened) (problem : Problem) (run : Run) (roll : List (ℕ × Told)) (worker vertex at : ℕ) (lent : List TreeMap) → IsBook before roll run
    → claim_of worker run.state.claims ≡ Some (record { worker = worker; vertex = vertex; at = at })
    → IsBook before (roll ++ (worker, told note.Abandoned lent) ∷ []) (go problem run (Abandon worker))
book-abandon before problem run roll worker vertex at lent book out =
    let mine = (hand_of worker (of_worker worker roll)).tally in
    let none : None ≡ claim_of worker (go problem run (Abandon worker)).state.claims =
    rw out (sym (claim_of-without worker worker run.state.claims ∙ rw (eq-eqb worker worker refl) refl)) in
    let tally : tally_of worker (go problem run (Abandon worker)).history ≡ tally_of worker before ++ mine =
    rw out (tally-push worker run.history (Abandoned worker vertex) ∙ (none-after (tally_of worker run.history) ∙ book.tally worker)) in
    book-note before problem run (Abandon worker) roll (told note.Abandoned lent) book none tally

-- what lies under the lock after a claim: a board of the same problem, and a roll that is true of it
pub held-claim : {E : Type 0} (out : E → Out) (before : List Happened) (problem : Problem) (old new : BoardValue E) (roll : List (ℕ × Told)) (worker vertex at : ℕ) (lent : List TreeMap)
    → board_problem out old ≡ problem → IsBook before roll old.run → IsStep out (Claim worker) old new
    → claim_of worker new.run.state.claims ≡ Some (record { worker = worker; vertex = vertex; at = at })
    → (board_problem out new ≡ problem) × IsBook before (roll ++ (worker, told (note.Claimed vertex at) lent) ∷ []) new.run
held-claim out before problem old new roll worker vertex at lent same book step claimed =
    let here = book-claim before (board_problem out old) old.run roll worker vertex at lent book (ap (λ r. claim_of worker r.state.claims) (sym step.run) ∙ claimed) in
    (ap (job_problem out) step.job ∙ same, subst (IsBook before (roll ++ (worker, told (note.Claimed vertex at) lent) ∷ [])) (sym step.run) here)

-- the same after a settle
pub held-settle : {E : Type 0} (out : E → Out) (before : List Happened) (problem : Problem) (old new : BoardValue E) (roll : List (ℕ × Told)) (worker : ℕ) (claim : ClaimValue) (given lent : List TreeMap)
    → board_problem out old ≡ problem → IsBook before roll old.run → IsOut old.run.state claim → claim.worker ≡ worker → IsGivenBack problem claim given
    → IsStep out (Settle claim.worker given) old new
    → (board_problem out new ≡ problem) × IsBook before (roll ++ (worker, told (note.Settled claim.vertex) lent) ∷ []) new.run
held-settle out before problem old new roll worker claim given lent same book is_out mine count step =
    let fits : length given ≡ length (uses_at (board_problem out old) claim.vertex) = count ∙ ap (λ p. length (uses_at p claim.vertex)) (sym same) in
    let here = book-settle before (board_problem out old) old.run roll claim.worker claim.vertex claim.at given lent book is_out fits in
    let there = subst (IsBook before (roll ++ (claim.worker, told (note.Settled claim.vertex) lent) ∷ [])) (sym step.run) here in
    (ap (job_problem out) step.job ∙ same, subst (λ w. IsBook before (roll ++ (w, told (note.Settled claim.vertex) lent) ∷ []) new.run) mine there)

-- the same after an abandon
pub held-abandon : {E : Type 0} (out : E → Out) (before : List Happened) (problem : Problem) (old new : BoardValue E) (roll : List (ℕ × Told)) (worker : ℕ) (claim : ClaimValue) (lent : List TreeMap)
    → board_problem out old ≡ problem → IsBook before roll old.run → IsOut old.run.state claim → claim.worker ≡ worker
    → IsStep out (Abandon claim.worker) old new
    → (board_problem out new ≡ problem) × IsBook before (roll ++ (worker, told note.Abandoned lent) ∷ []) new.run
held-abandon out before problem old new roll worker claim lent same book is_out mine step =
    let here = book-abandon before (board_problem out old) old.run roll claim.worker claim.vertex claim.at lent book is_out in
    let there = subst (IsBook before (roll ++ (claim.worker, told note.Abandoned lent) ∷ [])) (sym step.run) here in
    (ap (job_problem out) step.job ∙ same, subst (λ w. IsBook before (roll ++ (w, told note.Abandoned lent) ∷ []) new.run) mine there)

-- the claim that a worker has out by its slip is the one that is out
pub seat-claim : (before : List Happened) (run : Run) (roll : List (ℕ × Told)) (worker : ℕ) (out : Option ClaimOut) (tally : List ℕ) (mine : List Told)
    → IsBook before roll run → hand_of worker mine ≡ record { out = out; tally = tally } → mine ≡ of_worker worker roll → out ≡ claim_of worker run.state.claims
seat-claim before run roll worker out tally mine book hand agrees = sym (ap (λ h. h.out) hand) ∙ (ap (λ notes. (hand_of worker notes).out) agrees ∙ book.out worker)

-- what stands on a worker's slip is what the board has of it
pub seat-of : (before : List Happened) (problem : Problem) (run : Run) (roll : List (ℕ × Told)) (worker : ℕ) (out : Option ClaimOut) (tally : List ℕ) (lent : List TreeMap) (mine : List Told)
    → IsProblem problem → IsReplay problem run → IsBook before roll run → hand_of worker mine ≡ record { out = out; tally = tally } → mine ≡ of_worker worker roll
    → IsSeatOf before run (record { worker = worker; out = out; tally = tally; lent = lent })
seat-of before problem run roll worker out tally lent mine plan replay book hand agrees =
    let claim = seat-claim before run roll worker out tally mine book hand agrees in
    record {
      claim = claim;
      vertex = ap vertex_of claim ∙ (replay-state problem run plan replay).claims worker;
      tally = book.tally worker ∙ (ap (λ notes. tally_of worker before ++ (hand_of worker notes).tally) (sym agrees) ∙ ap (λ h. tally_of worker before ++ h.tally) hand);
    }

-- so a claim that a seat has out is out
pub seat-out : (before : List Happened) (run : Run) (seat : SeatValue) (claim : ClaimValue) → IsSeatOf before run seat → IsMine seat claim → IsOut run.state claim × (claim.worker ≡ seat.worker)
seat-out before run seat claim is mine =
    let out : claim_of seat.worker run.state.claims ≡ Some (claim_out claim) = sym is.claim ∙ mine in
    let same : claim.worker ≡ seat.worker = claim_of-worker seat.worker run.state.claims (claim_out claim) out in
    (ap (λ w. claim_of w run.state.claims) same ∙ out, same)

-- what a worker has settled is settled
tally-settled : (worker vertex : ℕ) (history : List Happened) → list_any (λ m. m == vertex) (tally_of worker history) ≡ true → IsSettled history vertex
tally-settled worker vertex [] e = e
tally-settled worker vertex (Claimed by which ∷ history) e = or_right false _ (tally-settled worker vertex history e)
tally-settled worker vertex (Settled by which given ∷ history) e = by_test (by == worker) (tally-settled worker vertex history) e
  where
    by_vertex : (b : Bool) → (list_any (λ m. m == vertex) (tally_of worker history) ≡ true → IsSettled history vertex) → (b || list_any (λ m. m == vertex) (tally_of worker history)) ≡ true → (b || list_any (settles vertex) history) ≡ true
    by_vertex true f e = refl
    by_vertex false f e = f e

    by_test : (b : Bool) → (list_any (λ m. m == vertex) (tally_of worker history) ≡ true → IsSettled history vertex)
        → list_any (λ m. m == vertex) (cond b (which ∷ tally_of worker history) (tally_of worker history)) ≡ true → ((which == vertex) || list_any (settles vertex) history) ≡ true
    by_test true f e = by_vertex (which == vertex) f e
    by_test false f e = or_right (which == vertex) _ (f e)
tally-settled worker vertex (Abandoned by which ∷ history) e = or_right false _ (tally-settled worker vertex history e)

-- a vertex that is in a tally is found there
listed : (tally : List ℕ) (vertex : ℕ) → Contains tally vertex → list_any (λ m. m == vertex) tally ≡ true
listed tally vertex c = list_any_at (λ m. m == vertex) tally c.0 vertex c.1 (ap (λ m. m == vertex) c.2 ∙ eq-eqb vertex vertex refl)

-- so what is in a seat's tally is settled by the history, and on the board
seat-history : (before : List Happened) (run : Run) (seat : SeatValue) (vertex : ℕ) → IsSeatOf before run seat → Contains seat.tally vertex → IsSettled run.history vertex
seat-history before run seat vertex is among =
    let earlier = tally_of seat.worker before in
    let there : list_any (λ m. m == vertex) (earlier ++ seat.tally) ≡ true =
    list_any-append (λ m. m == vertex) earlier seat.tally ∙ or_right (list_any (λ m. m == vertex) earlier) _ (listed seat.tally vertex among) in
    tally-settled seat.worker vertex run.history (subst (λ t. list_any (λ m. m == vertex) t ≡ true) (sym is.tally) there)

pub seat-settled : (before : List Happened) (problem : Problem) (run : Run) (seat : SeatValue) (vertex : ℕ) → IsProblem problem → IsReplay problem run → IsSeatOf before run seat → Contains seat.tally vertex → IsSome (value_at run.state.settled vertex)
seat-settled before problem run seat vertex plan replay is among = ((replay-state problem run plan replay).settled vertex).1 (seat-history before run seat vertex is among)

-- a vertex that a worker may claim isn't in its seat's tally
pub tally-fresh : (before : List Happened) (problem : Problem) (run : Run) (seat : SeatValue) (vertex : ℕ) → IsSeatOf before run seat → IsNextClaim problem run.history seat.worker (Some vertex) → ¬ Contains seat.tally vertex
tally-fresh before problem run seat vertex is next_is among = next_is.ready.unsettled (seat-history before run seat vertex is among)

-- what a worker was lent, after one note more
loan-push : (notes : List Told) (one : Told) → loan_of (notes ++ one ∷ []) ≡ loan_after (loan_of notes) one.lent one.note
loan-push notes one = fold-append (λ loan (told : Told). loan_after loan told.lent told.note) [] notes (one ∷ [])

-- the loans stay true where a step's note says what the step's worker was lent
loans-note : (problem : Problem) (first : List Content) (run : Run) (step : Step) (roll : List (ℕ × Told)) (one : Told) → AreLoans problem first roll run
    → (IsSome (claim_of (worker_of step) (go problem run step).state.claims) → loan_after (loan_of (of_worker (worker_of step) roll)) one.lent one.note ≡ lent_to problem first (go problem run step).history (worker_of step))
    → AreLoans problem first (roll ++ (worker_of step, one) ∷ []) (go problem run step)
loans-note problem first run step roll one loans here worker is_out = ⊎_elim
    (λ (same : worker_of step ≡ worker). subst (λ w. IsSome (claim_of w (go problem run step).state.claims) → loan_of (of_worker w (roll ++ (worker_of step, one) ∷ [])) ≡ lent_to problem first (go problem run step).history w) same
    (λ mine. ap loan_of (of_worker-here roll (worker_of step) one) ∙ (loan-push (of_worker (worker_of step) roll) one ∙ here mine)) is_out)
    (λ (apart : worker_of step ≢ worker). ap loan_of (of_worker-other roll (worker_of step) worker one apart) ∙ (loans worker (subst (λ (o : Option ClaimOut). IsSome o) (other-claim problem run step worker apart) is_out) ∙ sym (lent-other problem first run step worker apart)))
    (cases_eq (worker_of step) worker)

-- a settle or an abandon lends its worker nothing
settle-lends : (problem : Problem) (first : List Content) (run : Run) (worker : ℕ) (given : List TreeMap) → lent_to problem first (go problem run (Settle worker given)).history worker ≡ lent_to problem first run.history worker
settle-lends problem first run worker given = by_move (next problem run (Settle worker given)) refl
  where
    by_move : (o : Option Move) → next problem run (Settle worker given) ≡ o → lent_to problem first (moved run o).history worker ≡ lent_to problem first run.history worker
    by_move None e = refl
    by_move (Some move) e =
        let m = moved_settle problem run.state given (claim_of worker run.state.claims) move e in
        rw (← m.3) (lent_to-push problem first run.history (Settled m.0.worker m.0.vertex given) worker)

abandon-lends : (problem : Problem) (first : List Content) (run : Run) (worker : ℕ) → lent_to problem first (go problem run (Abandon worker)).history worker ≡ lent_to problem first run.history worker
abandon-lends problem first run worker = by_move (next problem run (Abandon worker)) refl
  where
    by_move : (o : Option Move) → next problem run (Abandon worker) ≡ o → lent_to problem first (moved run o).history worker ≡ lent_to problem first run.history worker
    by_move None e = refl
    by_move (Some move) e =
        let m = moved_abandon run.state (claim_of worker run.state.claims) move e in
        rw (← m.2) (lent_to-push problem first run.history (Abandoned m.0.worker m.0.vertex) worker)

-- after a settle or an abandon its worker has a claim out only if it had one before
settle-out : (problem : Problem) (run : Run) (worker : ℕ) (given : List TreeMap) → IsSome (claim_of worker (go problem run (Settle worker given)).state.claims) → IsSome (claim_of worker run.state.claims)
settle-out problem run worker given is_out = by_move (next problem run (Settle worker given)) refl is_out
  where
    by_move : (o : Option Move) → next problem run (Settle worker given) ≡ o → IsSome (claim_of worker (moved run o).state.claims) → IsSome (claim_of worker run.state.claims)
    by_move None e out = out
    by_move (Some move) e out = (let m = moved_settle problem run.state given (claim_of worker run.state.claims) move e in rw m.1 refl)

abandon-out : (problem : Problem) (run : Run) (worker : ℕ) → IsSome (claim_of worker (go problem run (Abandon worker)).state.claims) → IsSome (claim_of worker run.state.claims)
abandon-out problem run worker is_out = by_move (next problem run (Abandon worker)) refl is_out
  where
    by_move : (o : Option Move) → next problem run (Abandon worker) ≡ o → IsSome (claim_of worker (moved run o).state.claims) → IsSome (claim_of worker run.state.claims)
    by_move None e out = out
    by_move (Some move) e out = (let m = moved_abandon run.state (claim_of worker run.state.claims) move e in rw m.1 refl)

-- the loans after a claim, a settle and an abandon
pub loans-claim : {E : Type 0} (out : E → Out) (problem : Problem) (first : List Content) (old new : BoardValue E) (roll : List (ℕ × Told)) (worker vertex at : ℕ) (lent : List TreeMap)
    → board_problem out old ≡ problem → AreLoans problem first roll old.run → IsStep out (Claim worker) old new → lent ≡ lent_to problem first new.run.history worker
    → AreLoans problem first (roll ++ (worker, told (note.Claimed vertex at) lent) ∷ []) new.run
loans-claim out problem first old new roll worker vertex at lent same loans step is =
    let goes : new.run ≡ go problem old.run (Claim worker) = step.run ∙ ap (λ p. go p old.run (Claim worker)) same in
    subst (AreLoans problem first (roll ++ (worker, told (note.Claimed vertex at) lent) ∷ [])) (sym goes)
    (loans-note problem first old.run (Claim worker) roll (told (note.Claimed vertex at) lent) loans (λ mine. is ∙ ap (λ r. lent_to problem first r.history worker) goes))

pub loans-settle : {E : Type 0} (out : E → Out) (problem : Problem) (first : List Content) (old new : BoardValue E) (roll : List (ℕ × Told)) (worker by vertex : ℕ) (given lent : List TreeMap)
    → board_problem out old ≡ problem → AreLoans problem first roll old.run → by ≡ worker → IsStep out (Settle by given) old new
    → AreLoans problem first (roll ++ (worker, told (note.Settled vertex) lent) ∷ []) new.run
loans-settle out problem first old new roll worker by vertex given lent same loans mine step =
    let goes : new.run ≡ go problem old.run (Settle worker given) = step.run ∙ (ap (λ p. go p old.run (Settle by given)) same ∙ ap (λ w. go problem old.run (Settle w given)) mine) in
    subst (AreLoans problem first (roll ++ (worker, told (note.Settled vertex) lent) ∷ [])) (sym goes)
    (loans-note problem first old.run (Settle worker given) roll (told (note.Settled vertex) lent) loans (λ mine. loans worker (settle-out problem old.run worker given mine) ∙ sym (settle-lends problem first old.run worker given)))

pub loans-abandon : {E : Type 0} (out : E → Out) (problem : Problem) (first : List Content) (old new : BoardValue E) (roll : List (ℕ × Told)) (worker by : ℕ) (lent : List TreeMap)
    → board_problem out old ≡ problem → AreLoans problem first roll old.run → by ≡ worker → IsStep out (Abandon by) old new
    → AreLoans problem first (roll ++ (worker, told note.Abandoned lent) ∷ []) new.run
loans-abandon out problem first old new roll worker by lent same loans mine step =
    let goes : new.run ≡ go problem old.run (Abandon worker) = step.run ∙ (ap (λ p. go p old.run (Abandon by)) same ∙ ap (λ w. go problem old.run (Abandon w)) mine) in
    subst (AreLoans problem first (roll ++ (worker, told note.Abandoned lent) ∷ [])) (sym goes)
    (loans-note problem first old.run (Abandon worker) roll (told note.Abandoned lent) loans (λ mine. loans worker (abandon-out problem old.run worker mine) ∙ sym (abandon-lends problem first old.run worker)))
