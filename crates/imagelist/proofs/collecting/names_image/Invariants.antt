use Rattle.std.proofs.Common.{◌≡◌, drop}
use Rattle.std.specs.List.{filter_map}
use Rattle.imagelist.specs.Images.{image_name, is_among}
use Rattle.imagelist.proofs.collecting.names_image.Given as goal

-- none so far is the image
abbrev pub invariant-loop-origin : goal.invariant-loop-origin
invariant-loop-origin l = is_among (filter_map image_name (drop l.origin-index l.origins)) l.name ≡ is_among (filter_map image_name l.origins) l.name
