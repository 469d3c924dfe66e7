use Rattle.ignorefile.proofs.Lines.{last-ends}
use Rattle.ignorefile.proofs.line.Line.last_end.Goals as goal

pub returns-in-len1-up : goal.returns-in-len1-up
returns-in-len1-up c = last-ends c.args.self.now _ _ _ c.as_slice.ensures c.in-len1-up.len_at_least c.last-item.is c.last_byte.ensures
