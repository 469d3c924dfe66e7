use Rattle.std.proofs.Common.{◌∙◌, List, ℕ, sym, ap, subst}
use Rattle.words.specs.Flag.{behind_pieces}
use Rattle.pointed.specs.PrivateSpot.{IsEndOf}
use Rattle.pointed.proofs.SpotFacts.{named-left}
use Rattle.pointed.proofs.pointing.spot_after.Goals as goal

pub spot_at-requires : goal.spot_at-requires
spot_at-requires c =
    let line = c.args.line.now in
    subst (λ (left : List ℕ). IsEndOf line left) (sym (c.after_pieces.ensures ∙ ap (behind_pieces c.args.number) c.first_piece.ensures.behind))
    (named-left c.args.number line)
