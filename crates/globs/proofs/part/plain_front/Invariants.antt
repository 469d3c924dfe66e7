use Rattle.std.proofs.Common.{string_bytes}
use Rattle.globs.proofs.Beginnings.{IsFrontSoFar}
use Rattle.globs.proofs.part.plain_front.Given as goal

abbrev pub invariant-loop-part : goal.invariant-loop-part
invariant-loop-part l = IsFrontSoFar l.parts (string_bytes l.front) l.part-index
