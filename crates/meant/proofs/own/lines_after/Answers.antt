use Rattle.meant.proofs.LineFacts.{lines_cut}
use Rattle.meant.proofs.own.lines_after.Goals as goal

pub returns-then-count-lines : goal.returns-then-count-lines
returns-then-count-lines c = lines_cut c.args.count c.args.lines.now
