use Rattle.std.proofs.Common.{string_bytes}
use Rattle.globs.proofs.Ends.{IsEndSoFar}
use Rattle.globs.proofs.part.plain_end.Given as goal

abbrev pub invariant-loop-part : goal.invariant-loop-part
invariant-loop-part l = IsEndSoFar l.parts (string_bytes l.end) l.part-index
