use Rattle.evaluation.proofs.JudgedFacts.{LeastLaws}
use Rattle.evaluation.proofs.NeededFacts.{marks_same, evaluated_same}
use Rattle.evaluation.proofs.laws.stages_that_are_not_needed_change_nothing.Goals as goal

pub returns : goal.returns
returns c =
    let laws : LeastLaws = record { is_least = c.the_least_reason_is_reported.ensures.least; is_free = c.the_least_reason_is_reported.ensures.none } in
    record { needed = marks_same; evaluated = evaluated_same laws }
