use Rattle.std.proofs.Common.{◌≡◌, take}
use Rattle.cachemounts.specs.Holds.{new_holds}
use Rattle.cachemounts.proofs.holds.new_holds.Given as goal

abbrev pub invariant-loop-mount : goal.invariant-loop-mount
invariant-loop-mount l = l.new.items ≡ new_holds l.holder l.holds (take l.mount-index l.uses)
