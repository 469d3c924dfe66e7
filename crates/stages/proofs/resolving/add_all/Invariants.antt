use Rattle.stages.proofs.DraftFacts.{DraftSoFar}
use Rattle.std.specs.FinMap.{get as arg_value}
use Rattle.stages.specs.Naming.{names_in}
use Rattle.stages.proofs.resolving.add_all.Given as goal

abbrev pub invariant-loop-instruction : goal.invariant-loop-instruction
invariant-loop-instruction g l =
    DraftSoFar (names_in l.images) (arg_value l.args) l.initial.instruction-iterator.rest.items l.instruction-iterator.rest.items l.draft
