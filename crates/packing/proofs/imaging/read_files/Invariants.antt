use Rattle.std.proofs.Common.{◌≡◌, ◌++◌, true, drop}
use Rattle.std.specs.List.{list_all}
use Rattle.packing.specs.Images.{is_image, names_of}
use Rattle.packing.specs.PrivateImages.{given_names, image_rows}
use Rattle.packing.proofs.imaging.read_files.Given as goal

-- the images so far are images, and have the first of the names
abbrev pub invariant-loop-name : goal.invariant-loop-name
invariant-loop-name g l =
    (names_of (image_rows l.found) ++ given_names (drop l.name-index l.images) ≡ given_names l.images)
    × (list_all (λ image. is_image image.1) (image_rows l.found) ≡ true)
