use Rattle.std.proofs.Common.{◌∙◌, ap}
use Rattle.serde_json.specs.Data.{string}
use Rattle.serde_json.specs.View.{view}
use Rattle.serde_json.specs.declared.value.Value.{String}
use Rattle.packing.proofs.ImageFacts.{digest_is_read, empty_list_is_read, view_text}
use Rattle.packing.proofs.images.read_layout_image.Goals as goal

pub image_of_parts-image-requires-clause-digest : goal.image_of_parts-image-requires-clause-digest
image_of_parts-image-requires-clause-digest c =
    digest_is_read c.args.digest (view (String c.in_ok-into_string.field-0)) (view_text c.in_ok-into_string.field-0 ∙ ap string c.in_ok-into_string.ensures) c.requires

pub image_of_parts-image-requires-clause-tree : goal.image_of_parts-image-requires-clause-tree
image_of_parts-image-requires-clause-tree c = empty_list_is_read c.new.result c.new.ensures.items
