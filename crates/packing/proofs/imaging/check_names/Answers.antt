use Rattle.std.proofs.Common.{◌≡◌, ◌-◌, true, false, length, take, drop, arith, rules}
use Rattle.bundle.specs.Parts.{is_image_name}
use Rattle.packing.specs.PrivateImages.{is_among}
use Rattle.packing.proofs.ImageFacts.{names_left}
use Rattle.packing.proofs.imaging.check_names.Goals as goal

pub names-preserved : goal.names-preserved
names-preserved c =
    let named : is_image_name c.image-item.result.0 ≡ true = first_of (search rules, grind (arith)) in
    let new : is_among c.image-item.result.0 (take (length c.names.left.now - 1) (drop 1 c.names.left.now)) ≡ false = first_of (search rules, grind (arith)) in
    names_left c.args.images.now c.names.left.now c.image-item.result c.names.invariant c.in-len1-up.len_at_least c.image-item.is named new
