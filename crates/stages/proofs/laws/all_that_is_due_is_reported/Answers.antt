use Rattle.stages.proofs.FaultsFacts.{each_due, target_listed, empty_listed, none_missing}
use Rattle.stages.proofs.RefusalFacts.{LeastLaws}
use Rattle.stages.proofs.laws.all_that_is_due_is_reported.Goals as goal

pub returns : goal.returns
returns c =
    let laws : LeastLaws = record { is_least = c.the_least_reason_is_reported.ensures.least; is_free = c.the_least_reason_is_reported.ensures.none } in
    record { due = each_due laws; target = target_listed; stages = empty_listed; lines = none_missing laws }
