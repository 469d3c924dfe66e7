use Rattle.std.proofs.Common.{rules, sym, ap, ◌∙◌}
use Rattle.rolls.proofs.Moves.{seats_as}
use Rattle.rolls.proofs.roll.Roll.slip.Goals as goal

pub split_seat-seat-requires : goal.split_seat-seat-requires
split_seat-seat-requires g c =
    let i = c.self.invariant in
    let j = c.giver.invariant in
    (j.0 ∙ sym i.0, search rules, seats_as _ _ _ (ap (λ m. m.0) j.1))
