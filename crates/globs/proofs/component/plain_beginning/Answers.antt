use Rattle.globs.proofs.Beginnings.{parts-before}
use Rattle.globs.proofs.component.plain_beginning.Goals as goal

pub returns-then-is_spelled_out : goal.returns-then-is_spelled_out
returns-then-is_spelled_out c = parts-before c.args.text.now c.in-Some.front.now _ _ c.in-Some.ensures c.if-character-eq42.true c.is_spelled_out.ensures c.if-is_spelled_out.true
