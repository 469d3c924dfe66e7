use Rattle.std.proofs.Common.{◌≡◌, drop}
use Rattle.meant.specs.Sources.{is_image}
use Rattle.meant.proofs.sources.is_image.Given as goal

-- the images that are left decide
abbrev pub invariant-loop-image : goal.invariant-loop-image
invariant-loop-image l = is_image (drop l.image-index l.images) l.name ≡ is_image l.images l.name
