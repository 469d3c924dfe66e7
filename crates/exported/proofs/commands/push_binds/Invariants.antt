use Rattle.std.proofs.Common.{◌≡◌, ◌++◌, ◌+◌, drop}
use Rattle.exported.specs.Commands.{bind_mounts}
use Rattle.exported.proofs.commands.push_binds.Given as goal

-- the mounts so far, and those of what is left
abbrev pub invariant-loop-number : goal.invariant-loop-number
invariant-loop-number l = l.mounts ++ bind_mounts l.digests l.places (l.number + 1) (drop l.number l.binds) ≡ l.fn.mounts ++ bind_mounts l.digests l.places 1 l.binds
