use Rattle.std.proofs.Common.{◌≡◌, drop}
use Rattle.options.specs.Copy.{value_of}
use Rattle.options.proofs.copy.value_of.Given as goal

abbrev pub invariant-loop-flag : goal.invariant-loop-flag
invariant-loop-flag l = value_of l.name (drop l.flag-index l.flags) ≡ value_of l.name l.flags
