use Rattle.dockerfile.proofs.DockerfileFacts.{instructions_same, refusals_same, answers_apart}
use Rattle.dockerfile.proofs.laws.answers_are_unique.Goals as goal

pub returns : goal.returns
returns c = record {
  instructions = instructions_same c.a_line_spells_one.ensures;
  refusals = refusals_same;
  apart = answers_apart;
}
