use Rattle.std.proofs.Common.{List, subst}
use Rattle.lines.specs.declared.line.Line.{Line}
use Rattle.dockerfile.specs.Dockerfile.{AreSpelled}
use Rattle.dockerfile.proofs.DockerfileFacts.{are_dockerfile}
use Rattle.dockerfile.proofs.dockerfile.Dockerfile.read_with_lines.Goals as goal

pub invariant_of-result : goal.invariant_of-result
invariant_of-result c =
    let spelled = subst (λ (lines : List Line). AreSpelled lines c.in-Ok.instructions) c.as_slice.ensures.value c.in-Ok.ensures in
    are_dockerfile c.args.text.now c.in-Ok.instructions (c.in_ok-lines.lines.items, c.in_ok-lines.ensures, spelled)
