use Rattle.std.proofs.Common.{◌≡◌, true, length}
use Rattle.packing.specs.Images.{are_names}
use Rattle.packing.specs.PrivateImages.{given_names}
use Rattle.packing.proofs.imaging.check_names.Given as goal

-- if the names that are left are those of images, so are all
abbrev pub invariant-names : goal.invariant-names
invariant-names l = are_names (given_names l.left) ≡ true → are_names (given_names l.images) ≡ true

abbrev pub decreases-names : goal.decreases-names
decreases-names l = length l.left
