use Rattle.evaluation.proofs.FaultFacts.{each, listed, once, refused_line, in_order}
use Rattle.evaluation.proofs.laws.each_refused_stage_is_listed.Goals as goal

pub returns : goal.returns
returns c = record { each = each; listed = listed; once = once; line = refused_line; order = in_order }
