use Rattle.globs.proofs.Endings.{parts-behind}
use Rattle.globs.proofs.component.plain_ending.Goals as goal

pub returns-then-is_spelled_out : goal.returns-then-is_spelled_out
returns-then-is_spelled_out c = parts-behind c.args.text.now c.in-Some.rest.now _ _ c.in-Some.ensures c.if-character-eq42.true c.is_spelled_out.ensures c.if-is_spelled_out.true
