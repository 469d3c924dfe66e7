use Rattle.std.proofs.Common.{List, ℕ, sym, subst}
use Rattle.pointed.specs.PrivateSpot.{IsEndOf}
use Rattle.pointed.proofs.SpotFacts.{pieces-left}
use Rattle.pointed.proofs.pointing.later_spot.Goals as goal

pub spot_at-requires : goal.spot_at-requires
spot_at-requires c =
    let line = c.args.line.now in
    subst (λ (left : List ℕ). IsEndOf line left) (sym c.after_pieces.ensures) (pieces-left c.args.number line)
