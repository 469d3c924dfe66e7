use Rattle.std.proofs.Common.{◌≡◌, ◌++◌, drop}
use Rattle.std.specs.List.{filter_map}
use Rattle.stages.specs.Naming.{mount_reference}
use Rattle.stages.specs.ImageNames.{reference_image}
use Rattle.stages.proofs.image_name.run_images.Given as goal

abbrev pub invariant-loop-mount : goal.invariant-loop-mount
invariant-loop-mount l =
    l.images ++ filter_map (reference_image l.names) (filter_map (λ m. mount_reference m.kind) (drop l.mount-index l.mounts))
    ≡ filter_map (reference_image l.names) (filter_map (λ m. mount_reference m.kind) l.mounts)
