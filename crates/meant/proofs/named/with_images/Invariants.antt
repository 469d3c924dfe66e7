use Rattle.std.proofs.Common.{◌≡◌, ◌++◌, drop, map}
use Rattle.meant.proofs.named.with_images.Given as goal

-- the names so far with those of the images that are left are all
abbrev pub invariant-loop-image : goal.invariant-loop-image
invariant-loop-image l = map (λ name. name.now) l.names.items ++ drop l.image-index l.images ≡ map (λ stage. stage.now) l.fn.stages.items ++ l.images
