use Rattle.dockerfile.proofs.DockerfileFacts.{answered}
use Rattle.dockerfile.proofs.laws.texts_are_read_or_refused.Goals as goal

pub returns : goal.returns
returns c = answered c.lines_are_spelled_or_refused.ensures.either
