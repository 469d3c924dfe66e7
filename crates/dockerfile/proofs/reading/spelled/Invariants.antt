use Rattle.std.proofs.Common.{drop}
use Rattle.dockerfile.proofs.DockerfileFacts.{LinesSoFar}
use Rattle.dockerfile.proofs.reading.spelled.Given as goal

abbrev pub invariant-loop-line : goal.invariant-loop-line
invariant-loop-line l = LinesSoFar l.lines (drop l.line-index l.lines) l.instructions
