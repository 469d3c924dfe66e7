-- The tallies of all seats cut the settled vertices by worker.
use Rattle.std.proofs.Common.{◌≡◌, ℕ, suc, ◌+◌, ◌<◌, ◌≤◌, ◌==◌, ◌||◌, ⊎_elim, ◌&&◌, not, List, [], ◌∷◌, ◌++◌, Bool, true, false, cond, is_some, refl, sym, ap, ◌∙◌, arith}
use Rattle.std.specs.Prelude.{◌↔◌}
use Rattle.std.specs.List.{list_any, count_by, sum_by}
use Rattle.std.specs.Option.{option_map}
use Rattle.std.proofs.Common.{Option, Some, None}
use Rattle.std.proofs.lemmas.Bool.{cases_lt, eq-eqb}
use Rattle.std.proofs.lemmas.List.{append_cancel_left}
use Rattle.std.proofs.lemmas.List.Sums.{sum_by-cons, sum_by-append}
use Rattle.trees.specs.TreeMap.{TreeMap}
use Rattle.plans.specs.Plan.{Problem}
use Rattle.rolls.specs.declared.note.Told.{Told}
use Rattle.rolls.specs.Rolls.{of_worker}
use Rattle.board.specs.Clearing.{IsCleared, no_claim, least_first}
use Rattle.board.specs.Legal.{settles}
use Rattle.board.specs.Play.{Run, Abandon, go, moved, abandon_move, claim_of, value_at, IsReplay}
use Rattle.board.specs.Problem.{IsProblem}
use Rattle.board.proofs.PlayLemmas.{replay-right}
use Rattle.board.proofs.SoundLemmas.{sound, replay-state}
use Rattle.board.specs.declared.claim.ClaimOut.{ClaimOut}
use Rattle.board.specs.declared.event.Happened.{Happened}
use Rattle.board.specs.declared.event.Happened.TheVariants.{Claimed, Settled, Abandoned}
use Rattle.sites.specs.Seats.{SeatValue, tally_of, AreAll, AreTallies, times, hand_of, IsBook}
use Rattle.sites.specs.PrivateSeats.{AreSeatsOf, SettledBelow}
use Rattle.sites.proofs.BookLemmas.{tally-append}

-- only workers below a number have settled anything
abbrev AreOf : ℕ → List Happened → Type 0
AreOf given history = (worker : ℕ) → given ≤ worker → tally_of worker history ≡ []

sum-zero : {A : Type 0} (xs : List A) → sum_by (λ x. 0) xs ≡ 0
sum-zero [] = refl
sum-zero (x ∷ xs) = (let e = sum_by-cons (λ x. 0) x xs in let m = sum-zero xs in omega (arith, e, m))

sum-plus : {A : Type 0} (f g : A → ℕ) (xs : List A) → sum_by (λ x. f x + g x) xs ≡ sum_by f xs + sum_by g xs
sum-plus f g [] = refl
sum-plus f g (x ∷ xs) =
    let e = sum_by-cons (λ x. f x + g x) x xs in
    let a = sum_by-cons f x xs in
    let b = sum_by-cons g x xs in
    let more = sum-plus f g xs in
    omega (arith, e, a, b, more)

-- what is in a tally beside what was settled before is what was settled since
tally-since : (worker : ℕ) (before since history : List Happened) (tally : List ℕ) → history ≡ before ++ since → tally_of worker history ≡ tally_of worker before ++ tally → tally ≡ tally_of worker since
tally-since worker before since history tally whole is =
    append_cancel_left (tally_of worker before) tally (tally_of worker since) (sym is ∙ (ap (tally_of worker) whole ∙ tally-append worker before since))

-- the seats' tallies are what the events since say, added up
tallies-are : (before since : List Happened) (run : Run) (vertex : ℕ) (seats : List SeatValue) → run.history ≡ before ++ since → AreSeatsOf before run seats
    → sum_by (λ seat. times vertex seat.tally) seats ≡ sum_by (λ seat. times vertex (tally_of seat.worker since)) seats
tallies-are before since run vertex [] whole are = refl
tallies-are before since run vertex (seat ∷ seats) whole are =
    let here : times vertex seat.tally ≡ times vertex (tally_of seat.worker since) = ap (times vertex) (tally-since seat.worker before since run.history seat.tally whole (are 0 seat (omega arith)).tally) in
    let more = tallies-are before since run vertex seats whole (λ k d l. are (suc k) d (omega (arith, l))) in
    let e = sum_by-cons (λ (s : SeatValue). times vertex s.tally) seat seats in
    let f = sum_by-cons (λ (s : SeatValue). times vertex (tally_of s.worker since)) seat seats in
    omega (arith, here, more, e, f)

-- a settle more, in one worker's list
one-more : (b : Bool) (vertex which : ℕ) (rest : List ℕ) → times vertex (cond b (which ∷ rest) rest) ≡ cond b (cond (which == vertex) 1 0) 0 + times vertex rest
one-more true vertex which rest = sum_by-cons (λ m. cond (m == vertex) 1 0) which rest
one-more false vertex which rest = omega arith

-- only workers below the number, in what follows
tail-claimed : (given by which : ℕ) (history : List Happened) → AreOf given (Claimed by which ∷ history) → AreOf given history
tail-claimed given by which history of = of

settled-below : (given by which : ℕ) (back : List TreeMap) (history : List Happened) → AreOf given (Settled by which back ∷ history) → by < given
settled-below given by which back history of = ⊎_elim (λ l. l) (λ past. absurd (filled (by == by) (eq-eqb by by refl) (of by past))) (cases_lt by given)
  where
    filled : (b : Bool) → b ≡ true → cond b (which ∷ tally_of by history) (tally_of by history) ≡ [] → ⊥
    filled true t e = cc
    filled false t e = cc

tail-settled : (given by which : ℕ) (back : List TreeMap) (history : List Happened) → AreOf given (Settled by which back ∷ history) → AreOf given history
tail-settled given by which back history of worker past = rest (by == worker) (of worker past)
  where
    rest : (b : Bool) → cond b (which ∷ tally_of worker history) (tally_of worker history) ≡ [] → tally_of worker history ≡ []
    rest true e = absurd cc
    rest false e = e

-- what all workers have settled is what the history settles
cut : (given vertex : ℕ) (seats : List SeatValue) (history : List Happened) → AreAll given seats → AreOf given history → sum_by (λ seat. times vertex (tally_of seat.worker history)) seats ≡ count_by (settles vertex) history
cut given vertex seats [] all of = sum-zero seats
cut given vertex seats (Claimed by which ∷ history) all of =
    let m = cut given vertex seats history all of in
    let e = sum_by-cons (λ h. cond (settles vertex h) 1 0) (Claimed by which) history in
    omega (arith, m, e)
cut given vertex seats (Abandoned by which ∷ history) all of =
    let m = cut given vertex seats history all of in
    let e = sum_by-cons (λ h. cond (settles vertex h) 1 0) (Abandoned by which) history in
    omega (arith, m, e)
cut given vertex seats (Settled by which back ∷ history) all of =
    let more = cut given vertex seats history all (tail-settled given by which back history of) in
    let one : count_by (λ (seat : SeatValue). by == seat.worker) seats ≡ 1 = all by (settled-below given by which back history of) in
    let each : sum_by (λ (seat : SeatValue). times vertex (cond (by == seat.worker) (which ∷ tally_of seat.worker history) (tally_of seat.worker history))) seats ≡ sum_by (λ (seat : SeatValue). cond (by == seat.worker) (cond (which == vertex) 1 0) 0 + times vertex (tally_of seat.worker history)) seats =
    ap (λ (f : SeatValue → ℕ). sum_by f seats) (λ i seat. one-more (by == seat.worker) vertex which (tally_of seat.worker history) i) in
    let parts = sum-plus (λ (seat : SeatValue). cond (by == seat.worker) (cond (which == vertex) 1 0) 0) (λ (seat : SeatValue). times vertex (tally_of seat.worker history)) seats in
    let now = sum_by-cons (λ h. cond (settles vertex h) 1 0) (Settled by which back) history in
    let mine = by_test (which == vertex) one in
    omega (arith, more, each, parts, now, mine)
  where
    none : (b : Bool) → ◌≡◌ {A = ℕ} (cond b 0 0) 0
    none true = refl
    none false = refl

    by_test : (b : Bool) → count_by (λ (seat : SeatValue). by == seat.worker) seats ≡ 1 → sum_by (λ (seat : SeatValue). cond (by == seat.worker) (cond b 1 0) 0) seats ≡ cond b 1 0
    by_test true e = e
    by_test false e = ap (λ (f : SeatValue → ℕ). sum_by f seats) (λ i seat. none (by == seat.worker) i) ∙ sum-zero seats

counted-none : {A : Type 0} (p : A → Bool) (xs : List A) → list_any p xs ≡ false → count_by p xs ≡ 0
counted-none p [] e = refl
counted-none p (x ∷ xs) e = sum_by-cons (λ x. cond (p x) 1 0) x xs ∙ by_test (p x) (counted-none p xs) e
  where
    by_test : (b : Bool) → (list_any p xs ≡ false → count_by p xs ≡ 0) → (b || list_any p xs) ≡ false → cond b 1 0 + count_by p xs ≡ 0
    by_test true f e = absurd cc
    by_test false f e = (let m = f e in omega (arith, m))

counted-some : {A : Type 0} (p : A → Bool) (xs : List A) → list_any p xs ≡ true → 1 ≤ count_by p xs
counted-some p [] e = absurd cc
counted-some p (x ∷ xs) e =
    let f = sum_by-cons (λ x. cond (p x) 1 0) x xs in
    let m = by_test (p x) (counted-some p xs) e in
    omega (arith, f, m)
  where
    by_test : (b : Bool) → (list_any p xs ≡ true → 1 ≤ count_by p xs) → (b || list_any p xs) ≡ true → 1 ≤ cond b 1 0 + count_by p xs
    by_test true f e = omega arith
    by_test false f e = (let m = f e in omega (arith, m))

-- a vertex is settled by a history as often as it is settled
once : (problem : Problem) (run : Run) (vertex : ℕ) → IsProblem problem → IsReplay problem run → count_by (settles vertex) run.history ≡ cond (is_some (value_at run.state.settled vertex)) 1 0
once problem run vertex plan replay =
    by_test (is_some (value_at run.state.settled vertex)) (list_any (settles vertex) run.history) refl refl ((replay-state problem run plan replay).settled vertex) ((replay-right problem run (sound problem plan) replay).agrees.once vertex)
  where
    by_test : (b a : Bool) → is_some (value_at run.state.settled vertex) ≡ b → list_any (settles vertex) run.history ≡ a
        → (is_some (value_at run.state.settled vertex) ≡ true) ↔ (list_any (settles vertex) run.history ≡ true)
        → count_by (settles vertex) run.history ≤ 1 → count_by (settles vertex) run.history ≡ cond b 1 0
    by_test true a e f same most = (let l = counted-some (settles vertex) run.history (same.0 e) in omega (arith, l, most))
    by_test false false e f same most = counted-none (settles vertex) run.history f
    by_test false true e f same most = absurd (let t = same.1 f in cc)

-- so the events since settle a vertex once where it is settled, unless it was so before
once-since : (problem : Problem) (before since : List Happened) (run : Run) (vertex : ℕ) → IsProblem problem → IsReplay problem run → run.history ≡ before ++ since
    → count_by (settles vertex) since ≡ cond (is_some (value_at run.state.settled vertex) && not (list_any (settles vertex) before)) 1 0
once-since problem before since run vertex plan replay whole =
    by_test (is_some (value_at run.state.settled vertex)) (list_any (settles vertex) before) refl (once problem run vertex plan replay)
    (ap (count_by (settles vertex)) whole ∙ sum_by-append (λ x. cond (settles vertex x) 1 0) before since)
  where
    by_test : (b a : Bool) → list_any (settles vertex) before ≡ a → count_by (settles vertex) run.history ≡ cond b 1 0
        → count_by (settles vertex) run.history ≡ count_by (settles vertex) before + count_by (settles vertex) since → count_by (settles vertex) since ≡ cond (b && not a) 1 0
    by_test true true e all parts = (let some = counted-some (settles vertex) before e in omega (arith, all, parts, some))
    by_test true false e all parts = (let none = counted-none (settles vertex) before e in omega (arith, all, parts, none))
    by_test false a e all parts = omega (arith, all, parts)

-- an abandon changes no settled value, and so none does where all claims were abandoned
abandon-settled : (problem : Problem) (run : Run) (worker : ℕ) → (go problem run (Abandon worker)).state.settled ≡ run.state.settled
abandon-settled problem run worker = by_claim (claim_of worker run.state.claims)
  where
    by_claim : (o : Option ClaimOut) → (moved run (option_map (abandon_move run.state) o)).state.settled ≡ run.state.settled
    by_claim None = refl
    by_claim (Some claim) = refl

pub cleared-settled : (problem : Problem) (run after : Run) → IsCleared problem run after → after.state.settled ≡ run.state.settled
cleared-settled problem run after (no_claim here none) = refl
cleared-settled problem run after (least_first here there claim least rest) = cleared-settled problem (go problem run (Abandon claim.worker)) after rest ∙ abandon-settled problem run claim.worker

-- where all seats are there, their tallies are the vertices that were settled since
pub tallies : (before : List Happened) (problem : Problem) (run : Run) (given : ℕ) (seats : List SeatValue) → IsProblem problem → IsReplay problem run → AreSeatsOf before run seats → SettledBelow given before run.history → AreAll given seats
    → AreTallies before run.state.settled seats
tallies before problem run given seats plan replay are below all vertex =
    let since = below.0 in
    tallies-are before since run vertex seats below.1 are ∙ (cut given vertex seats since all below.2 ∙ once-since problem before since run vertex plan replay below.1)

-- nobody without a slip has settled anything since
pub of-given : (before : List Happened) (given : ℕ) (roll : List (ℕ × Told)) (run : Run) → IsBook before roll run → ((worker : ℕ) → given ≤ worker → of_worker worker roll ≡ []) → SettledBelow given before run.history
of-given before given roll run book none = (
  book.since.0,
  book.since.1,
  (λ worker past. sym (tally-since worker before book.since.0 run.history [] book.since.1
      (book.tally worker ∙ ap (λ notes. tally_of worker before ++ (hand_of worker notes).tally) (none worker past)))),
)
