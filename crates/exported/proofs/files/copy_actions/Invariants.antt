use Rattle.std.proofs.Common.{◌≡◌, ◌++◌, length}
use Rattle.exported.specs.Files.{copy_actions}
use Rattle.exported.proofs.files.copy_actions.Given as goal

abbrev pub decreases-sources : goal.decreases-sources
decreases-sources l = length l.left

-- the actions so far, and those of what is left
abbrev pub invariant-sources : goal.invariant-sources
invariant-sources l = l.actions ++ copy_actions l.files l.from l.number l.input l.left ≡ copy_actions l.files l.from l.inputs l.base l.files.sources
