use Rattle.std.proofs.Common.{◌≡◌, drop}
use Rattle.std.specs.List.{list_all}
use Rattle.options.specs.Mount.{is_mount_flag}
use Rattle.options.proofs.mount.are_mount_flags.Given as goal

abbrev pub invariant-loop-flag : goal.invariant-loop-flag
invariant-loop-flag l = list_all is_mount_flag (drop l.flag-index l.flags) ≡ list_all is_mount_flag l.flags
