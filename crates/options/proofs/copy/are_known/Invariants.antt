use Rattle.std.proofs.Common.{◌≡◌, drop}
use Rattle.std.specs.List.{list_all}
use Rattle.options.specs.Copy.{is_copy_flag}
use Rattle.options.proofs.copy.are_known.Given as goal

abbrev pub invariant-loop-flag : goal.invariant-loop-flag
invariant-loop-flag l = list_all is_copy_flag (drop l.flag-index l.flags) ≡ list_all is_copy_flag l.flags
