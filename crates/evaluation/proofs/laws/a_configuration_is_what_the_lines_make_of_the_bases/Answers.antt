use Rattle.evaluation.proofs.BaseFacts.{stage_begins, stage_makes}
use Rattle.evaluation.proofs.laws.a_configuration_is_what_the_lines_make_of_the_bases.Goals as goal

pub returns : goal.returns
returns c = record { begins = stage_begins; made = stage_makes }
