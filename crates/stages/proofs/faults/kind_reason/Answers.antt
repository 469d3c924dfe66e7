use Rattle.stages.proofs.DraftFacts.{mapped_none}
use Rattle.stages.proofs.FaultsFacts.{kind_other_judged}
use Rattle.stages.proofs.faults.kind_reason.Goals as goal

pub returns-in-None-clause-why : goal.returns-in-None-clause-why
returns-in-None-clause-why g c =
    kind_other_judged _ _ c.args.outer.now c.other_reason.new.outer c.args.names.now c.as_slice.result.now c.args.kind.now c.other_reason.result
    (mapped_none _ _ _ c.begun.ensures c.in-None.is) c.as_slice.ensures c.other_reason.ensures
