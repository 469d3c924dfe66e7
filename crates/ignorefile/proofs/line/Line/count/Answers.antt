use Rattle.std.proofs.Common.{refl}
use Rattle.ignorefile.proofs.Lines.{has-count}
use Rattle.ignorefile.proofs.line.Line.count.Goals as goal

pub returns : goal.returns
returns c = has-count c.args.self.now _ _ _ c.as_slice-segments.ensures c.has_deep.ensures c.if-has_deep.false refl
