use Rattle.std.proofs.Common.{◌≡◌, length}
use Rattle.exported.specs.Names.{from_slash}
use Rattle.exported.proofs.names.from_slash.Given as goal

abbrev pub decreases-bytes : goal.decreases-bytes
decreases-bytes l = length l.left

-- no slash so far
abbrev pub invariant-bytes : goal.invariant-bytes
invariant-bytes l = from_slash l.left ≡ from_slash l.name
