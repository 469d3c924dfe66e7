use Rattle.bundle.proofs.ExistFacts.{image_read}
use Rattle.bundle.proofs.laws.images_are_as_they_are_read.Goals as goal

pub returns : goal.returns
returns g c = image_read
