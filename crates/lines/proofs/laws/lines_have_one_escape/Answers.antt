use Rattle.lines.proofs.HeredocLemmas.{one_escape}
use Rattle.lines.proofs.laws.lines_have_one_escape.Goals as goal

pub returns : goal.returns
returns c = one_escape
