use Rattle.stages.proofs.WholeFacts.{patterns_there}
use Rattle.stages.proofs.laws.a_copy_from_a_stage_has_no_heredocs.Goals as goal

pub returns : goal.returns
returns c = patterns_there
