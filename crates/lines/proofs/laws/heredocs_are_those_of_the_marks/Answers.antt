use Rattle.lines.proofs.HeredocLemmas.{heredocs_marked}
use Rattle.lines.proofs.laws.heredocs_are_those_of_the_marks.Goals as goal

pub returns : goal.returns
returns c = heredocs_marked
