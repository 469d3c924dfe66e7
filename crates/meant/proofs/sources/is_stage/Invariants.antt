use Rattle.std.proofs.Common.{◌≡◌, drop, map}
use Rattle.meant.specs.Sources.{is_stage}
use Rattle.meant.proofs.sources.is_stage.Given as goal

-- the stages that are left decide
abbrev pub invariant-loop-stage : goal.invariant-loop-stage
invariant-loop-stage l = is_stage (map (λ stage. stage.now) (drop l.stage-index l.stages)) l.name ≡ is_stage (map (λ stage. stage.now) l.stages) l.name
