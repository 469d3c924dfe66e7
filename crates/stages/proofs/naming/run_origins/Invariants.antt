use Rattle.std.proofs.Common.{◌≡◌, drop}
use Rattle.std.specs.List.{filter_map}
use Rattle.stages.specs.Naming.{names_in, mount_reference}
use Rattle.stages.specs.PrivateResolving.{all_led}
use Rattle.stages.proofs.NamingFacts.{after}
use Rattle.stages.proofs.naming.run_origins.Given as goal

abbrev pub invariant-loop-mount : goal.invariant-loop-mount
invariant-loop-mount g l =
    after l.origins (all_led (names_in l.images) l.names (filter_map (λ m. mount_reference m.kind) (drop l.mount-index l.mounts)))
    ≡ all_led (names_in l.images) l.names (filter_map (λ m. mount_reference m.kind) l.mounts)
