use Rattle.std.proofs.Common.{◌≡◌, drop}
use Rattle.options.specs.Copy.{is_linked}
use Rattle.options.proofs.copy.is_linked.Given as goal

abbrev pub invariant-loop-flag : goal.invariant-loop-flag
invariant-loop-flag l = is_linked (drop l.flag-index l.flags) ≡ is_linked l.flags
