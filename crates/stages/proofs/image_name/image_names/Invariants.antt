use Rattle.std.proofs.Common.{[], take, drop}
use Rattle.std.specs.FinMap.{get as arg_value}
use Rattle.stages.specs.ImageNames.{image_names_after}
use Rattle.stages.proofs.ImageFacts.{NamesSoFar}
use Rattle.stages.proofs.image_name.image_names.Given as goal

abbrev pub invariant-loop-instruction : goal.invariant-loop-instruction
invariant-loop-instruction l =
    NamesSoFar (arg_value l.args) (image_names_after (arg_value l.args) [] l.instructions) (take l.instruction-index l.instructions)
    (drop l.instruction-index l.instructions) l.instruction-index l.outer l.names l.found
