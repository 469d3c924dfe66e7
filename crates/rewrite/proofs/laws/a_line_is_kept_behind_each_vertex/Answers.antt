use Rattle.rewrite.proofs.LawFacts.{lined, flat_lined}
use Rattle.rewrite.proofs.laws.a_line_is_kept_behind_each_vertex.Goals as goal

pub returns-clause-pruned : goal.returns-clause-pruned
returns-clause-pruned g c = λ plan pruned is are id lt. lined plan pruned id are is lt

pub returns-clause-flat : goal.returns-clause-flat
returns-clause-flat g c = λ plan flat is are id lt. flat_lined plan flat id are is lt
