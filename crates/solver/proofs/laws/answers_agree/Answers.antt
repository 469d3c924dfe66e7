use Rattle.solver.proofs.AlikeLemmas.{alike}
use Rattle.solver.proofs.laws.answers_agree.Goals as goal

pub returns : goal.returns
returns g c = alike
