use Rattle.ignorefile.proofs.Standing.{line-stands}
use Rattle.ignorefile.proofs.laws.a_line_stands_at_its_number.Goals as goal

pub returns : goal.returns
returns c = line-stands
