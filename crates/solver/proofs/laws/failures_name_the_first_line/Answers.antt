use Rattle.solver.proofs.AlikeLemmas.{one_line}
use Rattle.solver.proofs.laws.failures_name_the_first_line.Goals as goal

pub returns : goal.returns
returns c = one_line
