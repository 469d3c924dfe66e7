use Rattle.bundle.specs.Parts.{images_of}
use Rattle.bundle.proofs.RestFacts.{rest-start}
use Rattle.bundle.proofs.parts.images_of.Goals as goal

pub loop-name-init : goal.loop-name-init
loop-name-init g c = rest-start images_of _ _ _ c.into_vec-left.ensures c.new-images.ensures
