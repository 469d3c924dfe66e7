use Rattle.std.proofs.Common.{subst, sym}
use Rattle.stages.specs.PrivateMarks.{AreInPlace}
use Rattle.stages.proofs.table.StageTable.needed.Goals as goal

pub mark_needed-requires-clause-stages : goal.mark_needed-requires-clause-stages
mark_needed-requires-clause-stages c =
    let whole = c.stages-stages.ensures.whole in subst AreInPlace (sym c.stages-stages.ensures.stages) (whole.each 0 whole.some).each
