use Rattle.instructions.proofs.InstructionLaws.{whole}
use Rattle.instructions.proofs.parsing.parse.Goals as goal

pub new-requires : goal.new-requires
new-requires c = whole c.keyword_of.result c.args.line.now c.first_piece.result.1.now c.in-Ok.kind c.in-Ok.ensures.1 c.in-Ok.ensures.0
