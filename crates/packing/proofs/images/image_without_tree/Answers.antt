use Rattle.packing.proofs.ImageFacts.{empty_list_is_read}
use Rattle.packing.proofs.images.image_without_tree.Goals as goal

pub image_of_parts-requires-clause-tree : goal.image_of_parts-requires-clause-tree
image_of_parts-requires-clause-tree c = empty_list_is_read c.new.result c.new.ensures.items
