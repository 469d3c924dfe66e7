use Rattle.std.proofs.Common.{◌≡◌, drop}
use Rattle.packing.specs.PrivateImages.{is_among}
use Rattle.packing.proofs.images.is_among.Given as goal

-- the images that are left decide
abbrev pub invariant-loop-image : goal.invariant-loop-image
invariant-loop-image l = is_among l.name l.images ≡ is_among l.name (drop l.image-index l.images)
