use Rattle.packing.proofs.ReadFacts.{packed_images}
use Rattle.packing.proofs.laws.a_build_reads_the_images_that_are_packed.Goals as goal

pub returns : goal.returns
returns c rows dockerfile given are = packed_images rows dockerfile given are
