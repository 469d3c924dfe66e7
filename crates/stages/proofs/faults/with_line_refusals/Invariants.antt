use Rattle.std.proofs.Common.{[], ◌++◌, take, drop}
use Rattle.std.specs.FinMap.{get as arg_value}
use Rattle.stages.specs.Naming.{names_in}
use Rattle.stages.specs.Faults.{refusals_after}
use Rattle.stages.proofs.FaultsFacts.{FaultsSoFar}
use Rattle.stages.proofs.faults.with_line_refusals.Given as goal

abbrev pub invariant-loop-instruction : goal.invariant-loop-instruction
invariant-loop-instruction g l =
    FaultsSoFar (names_in l.images) (arg_value l.args) (l.initial.refusals ++ refusals_after (names_in l.images) (arg_value l.args) [] l.instructions)
    (take l.instruction-index l.instructions) (drop l.instruction-index l.instructions) l.instruction-index l.outer l.names l.refusals
