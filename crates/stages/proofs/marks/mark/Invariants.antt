use Rattle.std.proofs.Common.{take}
use Rattle.plain.specs.PrivateMarks.{MarksMore}
use Rattle.stages.specs.PrivateMarks.{HasStage}
use Rattle.stages.proofs.marks.mark.Given as goal

abbrev pub invariant-loop-origin : goal.invariant-loop-origin
invariant-loop-origin l = MarksMore l.initial.marks.items l.marks.items (HasStage (take l.origin-index l.origins))
