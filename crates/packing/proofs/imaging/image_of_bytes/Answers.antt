use Rattle.serde_json.specs.View.{view}
use Rattle.packing.proofs.ImageFacts.{image_is}
use Rattle.packing.proofs.imaging.image_of_bytes.Goals as goal

pub returns-in-Ok-read_image-clause-image : goal.returns-in-Ok-read_image-clause-image
returns-in-Ok-read_image-clause-image c = image_is c.in-Ok.text.now (view c.in-Ok-read_image.image) c.in-Ok-read_image.ensures
