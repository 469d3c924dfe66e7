-- The claims that `follow` keeps: those that are out, in their order. And which event a step of the board is.
use Rattle.std.specs.Prelude.{◌≡◌, ℕ, List, [], ◌∷◌, ◌++◌, map, Some, ◌⊎◌, slice_get}
use Rattle.std.specs.List.{remove}
use Rattle.plans.specs.Plan.{Problem}
use Rattle.cachemounts.specs.declared.content.Content.{Content}
use Rattle.board.specs.Claim.{ClaimValue, IsClaim, claim_out}
use Rattle.board.specs.PrivateClaim.{AreApart}
use Rattle.board.specs.Legal.{Possible, event_of}
use Rattle.board.specs.Leaving.{IsLent}
use Rattle.board.specs.declared.event.Event.{Event}
use Rattle.board.specs.declared.event.Event.TheVariants as event
use Rattle.board.specs.Play.{Step, Claim, Settle, Abandon}
use Rattle.board.specs.declared.event.Happened.{Happened}
use Rattle.board.specs.declared.claim.ClaimOut.{ClaimOut}

-- claims that are all of the problem (own)
abbrev pub AreClaims : Problem → List ClaimValue → Type 0
AreClaims problem [] = Unit {0}
AreClaims problem (claim ∷ claims) = IsClaim problem claim × AreClaims problem claims

-- claims are those that are out, in their order, each of the problem, and no worker has two (own)
pub record AreOut (problem : Problem) (claims : List ClaimOut) (out : List ClaimValue) : Type 0 where
  pub all : claims ≡ map claim_out out
  pub each : AreClaims problem out
  pub apart : AreApart claims

-- each of these claims has the trees that its worker was lent with it (own)
abbrev pub AreLent : Problem → List Content → List Happened → List ClaimValue → Type 0
AreLent problem first history [] = Unit {0}
AreLent problem first history (claim ∷ claims) = IsLent problem first history claim × AreLent problem first history claims

-- a worker's claim is at a position of a list (own)
pub record IsAt (claims : List ClaimValue) (worker at : ℕ) : Type 0 where
  pub claim : ClaimValue
  pub there : slice_get claims at ≡ Some claim
  pub by : claim.worker ≡ worker

-- a worker's claim was taken from a list (own)
pub record IsTaken (worker : ℕ) (before after : List ClaimValue) (claim : ClaimValue) : Type 0 where
  pub at : ℕ
  pub there : slice_get before at ≡ Some claim
  pub by : claim.worker ≡ worker
  pub left : after ≡ remove before at

-- one event, after a history: it happens where it is possible, and is left out where it isn't (own)
abbrev pub Applies : Problem → Event → List Happened → List Happened → Type 0
Applies problem event before after =
    ((happened : Happened) × (event_of happened ≡ event) × Possible problem before happened × (after ≡ before ++ happened ∷ []))
    ⊎ (((happened : Happened) → event_of happened ≡ event → ¬ Possible problem before happened) × (after ≡ before))

-- the event that a step is, the trees that it gives back left out (own)
abbrev pub event_of_step : Step → Event
event_of_step (Claim worker) = event.Claim worker
event_of_step (Settle worker given) = event.Settle worker
event_of_step (Abandon worker) = event.Abandon worker

-- a history begins with these events (own)
abbrev pub Begins : List Happened → List Happened → Type 0
Begins before history = (later : List Happened) × (history ≡ before ++ later)
