use Rattle.dockerfile.proofs.DockerfileFacts.{are_dockerfile}
use Rattle.dockerfile.proofs.laws.instructions_of_a_text_are_whole.Goals as goal

pub returns : goal.returns
returns c = are_dockerfile
