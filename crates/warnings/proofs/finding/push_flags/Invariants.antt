use Rattle.std.proofs.Common.{◌≡◌, ◌++◌, drop}
use Rattle.std.specs.List.{filter_map}
use Rattle.warnings.specs.Warnings.{flag_warning}
use Rattle.warnings.proofs.finding.push_flags.Given as goal

-- the warnings so far and those that are left are all
abbrev pub invariant-loop-flag : goal.invariant-loop-flag
invariant-loop-flag l = l.found ++ filter_map (flag_warning l.escape l.line) (drop l.flag-index l.flags) ≡ l.fn.found ++ filter_map (flag_warning l.escape l.line) l.flags
