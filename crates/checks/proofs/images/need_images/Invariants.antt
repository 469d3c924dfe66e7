use Rattle.std.proofs.Common.{◌≡◌, drop}
use Rattle.std.specs.List.{list_any}
use Rattle.checks.specs.PrivateImages.{needs_images}
use Rattle.checks.proofs.images.need_images.Given as goal

-- the faults that are left decide
abbrev pub invariant-loop-fault : goal.invariant-loop-fault
invariant-loop-fault l = list_any (λ fault. needs_images fault.reason) (drop l.fault-index l.faults) ≡ list_any (λ fault. needs_images fault.reason) l.faults
