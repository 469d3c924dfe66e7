use Rattle.std.proofs.Common.{◌≡◌, drop, map}
use Rattle.options.proofs.ListLaws.{behind}
use Rattle.options.specs.Lists.{all_some}
use Rattle.options.specs.Mount.{mount_in}
use Rattle.options.proofs.mount.mounts.Given as goal

abbrev pub invariant-loop-flag : goal.invariant-loop-flag
invariant-loop-flag l = behind l.found (all_some (map mount_in (drop l.flag-index l.flags))) ≡ all_some (map mount_in l.flags)
