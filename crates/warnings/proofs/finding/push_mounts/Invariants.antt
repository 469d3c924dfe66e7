use Rattle.std.proofs.Common.{◌≡◌, ◌++◌, drop}
use Rattle.warnings.specs.Known.{stage_by}
use Rattle.std.specs.List.{filter_map}
use Rattle.warnings.specs.Warnings.{mount_warning}
use Rattle.warnings.proofs.finding.push_mounts.Given as goal

-- the warnings so far and those that are left are all
abbrev pub invariant-loop-mount : goal.invariant-loop-mount
invariant-loop-mount l = l.found ++ filter_map (mount_warning (stage_by l.stages) l.place l.line) (drop l.mount-index l.mounts) ≡ l.fn.found ++ filter_map (mount_warning (stage_by l.stages) l.place l.line) l.mounts
