use Rattle.std.proofs.Common.{◌≡◌, drop}
use Rattle.exported.specs.Capabilities.{mounts_caps}
use Rattle.exported.proofs.capabilities.mounts_caps.Given as goal

-- the capabilities so far, with those of what is left
abbrev pub invariant-loop-mount : goal.invariant-loop-mount
invariant-loop-mount l = mounts_caps (drop l.mount-index l.mounts) l.caps.entries ≡ mounts_caps l.mounts l.fn.caps.entries
