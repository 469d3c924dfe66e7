use Rattle.std.proofs.Common.{take}
use Rattle.plain.specs.PrivateMarks.{MarksMore}
use Rattle.stages.specs.Needed.{origins_in}
use Rattle.stages.specs.PrivateMarks.{HasStage}
use Rattle.stages.proofs.marks.mark_named.Given as goal

abbrev pub invariant-loop-resolved : goal.invariant-loop-resolved
invariant-loop-resolved l = MarksMore l.initial.marks.items l.marks.items (HasStage (origins_in (take l.resolved-index l.instructions)))
