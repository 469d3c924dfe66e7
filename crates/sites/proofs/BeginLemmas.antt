-- What is true of a board on which all claims were abandoned, when its site is made: nothing stands on the roll yet.
use Rattle.std.proofs.Common.{◌≡◌, ℕ, List, [], ◌∷◌, Option, Some, None, refl, sym, ap, ◌∙◌, subst, append-nil}
use Rattle.std.specs.Prelude.{IsSome}
use Rattle.std.specs.Option.{option_map}
use Rattle.plans.specs.Plan.{Problem}
use Rattle.cachemounts.specs.declared.content.Content.{Content}
use Rattle.board.specs.Clearing.{IsCleared, no_claim, least_first}
use Rattle.board.specs.Play.{Run, Abandon, go, moved, abandon_move, claim_of}
use Rattle.board.specs.declared.claim.ClaimOut.{ClaimOut}
use Rattle.board.specs.declared.event.Happened.{Happened}
use Rattle.board.specs.declared.event.Happened.TheVariants.{Abandoned}
use Rattle.sites.specs.Seats.{GoesOnFrom, IsBook, AreLoans, tally_of}
use Rattle.sites.proofs.BookLemmas.{none-after, tally-append, goes-on}

-- an abandon puts nothing into a tally
abandon-tally : (problem : Problem) (run : Run) (by worker : ℕ) → tally_of worker (go problem run (Abandon by)).history ≡ tally_of worker run.history
abandon-tally problem run by worker = by_claim (claim_of by run.state.claims)
  where
    by_claim : (o : Option ClaimOut) → tally_of worker (moved run (option_map (abandon_move run.state) o)).history ≡ tally_of worker run.history
    by_claim None = refl
    by_claim (Some claim) = tally-append worker run.history (Abandoned claim.worker claim.vertex ∷ []) ∙ none-after (tally_of worker run.history)

cleared-tally : (problem : Problem) (run after : Run) (worker : ℕ) → IsCleared problem run after → tally_of worker after.history ≡ tally_of worker run.history
cleared-tally problem run after worker (no_claim here none) = refl
cleared-tally problem run after worker (least_first here there claim least rest) =
    cleared-tally problem (go problem run (Abandon claim.worker)) after worker rest ∙ abandon-tally problem run claim.worker worker

-- abandons are added to what had happened
cleared-on : (before : List Happened) (problem : Problem) (run after : Run) → IsCleared problem run after → GoesOnFrom before run.history → GoesOnFrom before after.history
cleared-on before problem run after (no_claim here none) on = on
cleared-on before problem run after (least_first here there claim least rest) on =
    cleared-on before problem (go problem run (Abandon claim.worker)) after rest (goes-on before problem run (Abandon claim.worker) on)

-- so an empty roll is true of the board
pub book-begun : (before : List Happened) (problem : Problem) (run after : Run) → run.history ≡ before → IsCleared problem run after → after.state.claims ≡ [] → IsBook before [] after
book-begun before problem run after is cleared none = record {
  since = cleared-on before problem run after cleared ([], is ∙ sym (append-nil before));
  out = λ worker. sym (ap (claim_of worker) none);
  tally = λ worker. cleared-tally problem run after worker cleared ∙ (ap (tally_of worker) is ∙ sym (none-after (tally_of worker before)));
}

-- nobody has a claim out, and so no loan has to stand there
pub loans-begun : (problem : Problem) (first : List Content) (run : Run) → run.state.claims ≡ [] → AreLoans problem first [] run
loans-begun problem first run none worker is_out = absurd (let no = subst (λ claims. IsSome (claim_of worker claims)) none is_out in cc)
