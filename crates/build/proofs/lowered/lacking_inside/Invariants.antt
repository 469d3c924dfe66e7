use Rattle.std.proofs.Common.{◌≡◌, drop}
use Rattle.stages.specs.Naming.{names_in}
use Rattle.build.specs.Lowered.{lacking_inside}
use Rattle.build.proofs.lowered.lacking_inside.Given as goal

-- the instructions so far name no image that is lacking
abbrev pub invariant-loop-resolved : goal.invariant-loop-resolved
invariant-loop-resolved l =
    lacking_inside (names_in l.images) (drop l.resolved-index l.instructions) ≡ lacking_inside (names_in l.images) l.instructions
