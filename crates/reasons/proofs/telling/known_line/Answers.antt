use Rattle.reasons.proofs.Known.{known}
use Rattle.reasons.proofs.telling.known_line.Goals as goal

pub returns : goal.returns
returns c = known c.a_line_stands_at_its_number.ensures c.args.file.now c.args.numbers.now c.args.texts.now c.args.position c.args.exception c.requires.cut c.requires.line
