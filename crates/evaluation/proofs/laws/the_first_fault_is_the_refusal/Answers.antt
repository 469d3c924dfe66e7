use Rattle.evaluation.proofs.FaultFacts.{first, refused, free, accepted}
use Rattle.evaluation.proofs.laws.the_first_fault_is_the_refusal.Goals as goal

pub returns : goal.returns
returns c = record { first = first; refused = refused; free = free; evaluated = accepted }
