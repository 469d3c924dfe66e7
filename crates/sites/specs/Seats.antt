-- What a seat says of its worker, and how a site's book ties it to the board.
use Rattle.std.specs.Prelude.{◌≡◌, ℕ, ◌<◌, ◌==◌, not, ◌&&◌, List, [], ◌∷◌, ◌++◌, if◌then◌else◌, length, Option, Some, None, is_some, IsSome, Contains, slice_index_or, refl}
use Rattle.std.specs.List.{fold, list_any, count_by, sum_by}
use Rattle.std.specs.Coded.{Coded, code_by, coded×, coded_ℕ, coded_list, coded_option}
use Rattle.trees.specs.Cause.{TreeOrCause}
use Rattle.trees.specs.TreeMap.{TreeMap}
use Rattle.trees.specs.contracts.tree.Tree as tree
use Rattle.plans.specs.Plan.{Problem}
use Rattle.cachemounts.specs.declared.content.Content.{Content}
use Rattle.rolls.specs.declared.note.Note.{Note}
use Rattle.rolls.specs.declared.note.Told.{Told}
use Rattle.rolls.specs.declared.note.Note.TheVariants as note
use Rattle.rolls.specs.Rolls.{of_worker}
use Rattle.board.specs.Claim.{ClaimValue, claim_out}
use Rattle.board.specs.Leaving.{lent_to}
use Rattle.board.specs.Legal.{settles, vertex_out}
use Rattle.board.specs.Play.{Run, claim_of, value_at, vertex_of}
use Rattle.board.specs.contracts.claim.ClaimOut as claim_row
use Rattle.board.specs.declared.claim.ClaimOut.{ClaimOut}
use Rattle.board.specs.declared.event.Happened.{Happened}
use Rattle.board.specs.declared.event.Happened.TheVariants.{Claimed, Settled, Abandoned}

-- a worker, the claim that it has out, if any, the vertices that it has settled at its site, in order, and the trees that it was lent with its last claim
-- there (own)
pub record SeatValue : Type 0 where
  pub worker : ℕ
  pub out : Option ClaimOut
  pub tally : List ℕ
  pub lent : List TreeMap

-- a seat in plain data, for generic code (own)
abbrev pub seat_code : Coded SeatValue
seat_code =
    code_by (ℕ × (Option ClaimOut × (List ℕ × List TreeMap)))
    (coded× coded_ℕ (coded× (coded_option claim_row.the_row.coded) (coded× (coded_list coded_ℕ) (coded_list tree.the_row.coded))))
    (λ s. (s.worker, (s.out, (s.tally, s.lent))))
    (λ t. record { worker = t.0; out = t.1.0; tally = t.1.1.0; lent = t.1.1.1 })
    (λ _. refl)

-- a claim is the one that a seat has out (own)
abbrev pub IsMine : SeatValue → ClaimValue → Type 0
IsMine seat claim = seat.out ≡ Some (claim_out claim)

-- a claim has the trees that a seat was lent with its last claim (own)
abbrev pub IsLentTo : SeatValue → ClaimValue → Type 0
IsLentTo seat claim = claim.caches ≡ seat.lent

-- the vertices that a worker has settled, in order (own)
abbrev pub tally_of : ℕ → List Happened → List ℕ
tally_of worker [] = []
tally_of worker (Claimed by vertex ∷ history) = tally_of worker history
tally_of worker (Settled by vertex given ∷ history) = if by == worker then vertex ∷ tally_of worker history else tally_of worker history
tally_of worker (Abandoned by vertex ∷ history) = tally_of worker history

-- a history goes on from the events before (own)
abbrev pub GoesOnFrom : List Happened → List Happened → Type 0
GoesOnFrom before history = (since : List Happened) × (history ≡ before ++ since)

-- a seat says what a board has of its worker: the claim that it has out, with the vertex that it has out by the history, and the vertices that it has
-- settled since those that it had settled before the site was made (own)
pub record IsSeatOf (before : List Happened) (run : Run) (seat : SeatValue) : Type 0 where
  pub claim : seat.out ≡ claim_of seat.worker run.state.claims
  pub vertex : vertex_of seat.out ≡ vertex_out run.history seat.worker
  pub tally : tally_of seat.worker run.history ≡ tally_of seat.worker before ++ seat.tally

-- these are all seats that were given, of which there are so many: each worker has one (own)
abbrev pub AreAll : ℕ → List SeatValue → Type 0
AreAll given seats = (worker : ℕ) → worker < given → count_by (λ seat. worker == seat.worker) seats ≡ 1

-- how often a number is in a list (own)
abbrev pub times : ℕ → List ℕ → ℕ
times number numbers = count_by (λ other. other == number) numbers

-- what is in these seats' tallies is settled (own)
abbrev pub AreSettled : List (Option TreeOrCause) → List SeatValue → Type 0
AreSettled settled seats = (k vertex : ℕ) (default : SeatValue) → k < length seats → Contains (slice_index_or seats k default).tally vertex → IsSome (value_at settled vertex)

-- in these seats' tallies together each vertex is once that is settled and wasn't so before, and no other vertex is (own)
abbrev pub AreTallies : List Happened → List (Option TreeOrCause) → List SeatValue → Type 0
AreTallies before settled seats =
    (vertex : ℕ) → sum_by (λ seat. times vertex seat.tally) seats ≡ (if is_some (value_at settled vertex) && not (list_any (settles vertex) before) then 1 else 0)

-- what a worker has: the claim that is out, and its tally (own)
pub record Hand : Type 0 where
  pub out : Option ClaimOut
  pub tally : List ℕ

-- a worker's hand before it has done anything (own)
abbrev pub empty_hand : Hand
empty_hand = record { out = None; tally = [] }

-- a worker's hand after one note more (own)
abbrev pub after_note : ℕ → Hand → Note → Hand
after_note worker hand (note.Claimed vertex at) = record { out = Some (record { worker = worker; vertex = vertex; at = at }); tally = hand.tally }
after_note worker hand (note.Settled vertex) = record { out = None; tally = hand.tally ++ vertex ∷ [] }
after_note worker hand note.Abandoned = record { out = None; tally = hand.tally }

-- a worker's hand after its notes (own)
abbrev pub hand_of : ℕ → List Told → Hand
hand_of worker notes = fold (λ hand (told : Told). after_note worker hand told.note) empty_hand notes

-- what a worker was lent with its last claim, after one note more (own)
abbrev pub loan_after : List TreeMap → List TreeMap → Note → List TreeMap
loan_after loan lent (note.Claimed vertex at) = lent
loan_after loan lent (note.Settled vertex) = loan
loan_after loan lent note.Abandoned = loan

-- what a worker was lent with its last claim, by its notes (own)
abbrev pub loan_of : List Told → List TreeMap
loan_of notes = fold (λ loan (told : Told). loan_after loan told.lent told.note) [] notes

-- the loans on a roll are true of a history: each worker that has a claim out was lent what stands there beside it (own)
abbrev pub AreLoans : Problem → List Content → List (ℕ × Told) → Run → Type 0
AreLoans problem first roll run =
    (worker : ℕ) → IsSome (claim_of worker run.state.claims) → loan_of (of_worker worker roll) ≡ lent_to problem first run.history worker

-- the notes on a roll are true of a board whose history goes on from the events before: they leave in each worker's hand the claim that it has out, and the
-- vertices that it has settled since (own)
pub record IsBook (before : List Happened) (roll : List (ℕ × Told)) (run : Run) : Type 0 where
  pub since : GoesOnFrom before run.history
  pub out : (worker : ℕ) → (hand_of worker (of_worker worker roll)).out ≡ claim_of worker run.state.claims
  pub tally : (worker : ℕ) → tally_of worker run.history ≡ tally_of worker before ++ (hand_of worker (of_worker worker roll)).tally
