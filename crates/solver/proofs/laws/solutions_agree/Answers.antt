use Rattle.solver.proofs.AlikeLemmas.{alike-solutions}
use Rattle.solver.proofs.laws.solutions_agree.Goals as goal

pub returns : goal.returns
returns c = λ problem this that is needs. alike-solutions problem this that is.vertices needs
