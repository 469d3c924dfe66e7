use Rattle.std.proofs.Common.{List, ℕ, sym, subst}
use Rattle.pointed.specs.PrivateSpot.{IsEndOf}
use Rattle.pointed.proofs.SpotFacts.{blanks-left}
use Rattle.pointed.proofs.pointing.name_of.Goals as goal

pub spot_at-requires : goal.spot_at-requires
spot_at-requires c =
    let line = c.args.line.now in
    subst (λ (left : List ℕ). IsEndOf line left) (sym c.after_blanks.ensures) (blanks-left line)
