use Rattle.checks.proofs.TextFacts.{some_check, one_check, one_sound}
use Rattle.checks.proofs.laws.each_bundle_has_its_check.Goals as goal

pub returns : goal.returns
returns c =
    let faults = c.each_bundle_has_its_faults.ensures in
    record { exists = some_check faults.exists; unique = one_check faults.unique; sound = one_sound faults.unique }
