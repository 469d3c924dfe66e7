use Rattle.std.proofs.Common.{◌≡◌, drop}
use Rattle.borrowed.specs.Lent.{items_data}
use Rattle.packing.specs.Layout.{first_of_platform}
use Rattle.packing.proofs.layout.first_of_platform.Given as goal

-- the images that are left decide
abbrev pub invariant-loop-image : goal.invariant-loop-image
invariant-loop-image l = first_of_platform (items_data l.images) ≡ first_of_platform (items_data (drop l.image-index l.images))
