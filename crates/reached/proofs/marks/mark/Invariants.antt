use Rattle.std.proofs.Common.{take}
use Rattle.std.specs.Prelude.{Contains}
use Rattle.plain.specs.PrivateMarks.{MarksMore}
use Rattle.reached.proofs.marks.mark.Given as goal

abbrev pub invariant-loop-id : goal.invariant-loop-id
invariant-loop-id l = MarksMore l.initial.marks.items l.marks.items (Contains (take l.id-index l.ids))
