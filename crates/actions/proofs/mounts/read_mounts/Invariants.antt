use Rattle.std.proofs.Common.{◌≡◌, ◌++◌}
use Rattle.actions.specs.PrivateMounts.{read_binds, read_caches}
use Rattle.actions.proofs.mounts.read_mounts.Given as goal

abbrev pub invariant-loop-mount : goal.invariant-loop-mount
invariant-loop-mount l = record {
  bound : l.binds ++ read_binds l.dir l.mount-iterator.rest.items ≡ read_binds l.dir l.initial.mount-iterator.rest.items;
  cached : l.caches ++ read_caches l.dir l.mount-iterator.rest.items ≡ read_caches l.dir l.initial.mount-iterator.rest.items;
}
