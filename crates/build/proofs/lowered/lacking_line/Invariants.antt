use Rattle.std.proofs.Common.{◌≡◌, drop}
use Rattle.stages.specs.Naming.{names_in}
use Rattle.build.specs.Lowered.{lacking_line}
use Rattle.build.proofs.lowered.lacking_line.Given as goal

-- the stages so far name no image that is lacking
abbrev pub invariant-loop-stage : goal.invariant-loop-stage
invariant-loop-stage l = lacking_line (names_in l.images) (drop l.stage-index l.stages) ≡ lacking_line (names_in l.images) l.stages
