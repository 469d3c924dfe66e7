use Rattle.dockerfile.proofs.DockerfileFacts.{are_dockerfile}
use Rattle.dockerfile.proofs.dockerfile.Dockerfile.check.Goals as goal

pub invariant_of-result : goal.invariant_of-result
invariant_of-result c =
    are_dockerfile c.args.text.now c.in_ok-instructions.instructions (c.in_ok-lines.lines.items, c.in_ok-lines.ensures, c.in_ok-instructions.ensures)
