use Rattle.std.proofs.Common.{rules, ap}
use Rattle.rolls.proofs.Moves.{begins, parts_as}
use Rattle.rolls.proofs.roll.Opened.new.Goals as goal

pub of_words-requires : goal.of_words-requires
of_words-requires c = begins

pub split_seat-giver-requires : goal.split_seat-giver-requires
split_seat-giver-requires c =
    let e = c.in_ok-table.ensures in
    (e.2, search rules, parts_as _ _ _ _ (ap (λ m. m.0) e.4))
