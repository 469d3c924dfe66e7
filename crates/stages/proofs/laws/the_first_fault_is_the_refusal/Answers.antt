use Rattle.stages.proofs.FaultsFacts.{first_refused, refused_first, none_resolved, resolved_none}
use Rattle.stages.proofs.laws.the_first_fault_is_the_refusal.Goals as goal

pub returns : goal.returns
returns c = record { first = first_refused; refused = refused_first; free = none_resolved; resolved = resolved_none }
