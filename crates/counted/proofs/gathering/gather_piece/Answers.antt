use Rattle.counted.proofs.GatheringFacts.{says_both}
use Rattle.counted.proofs.gathering.gather_piece.Goals as goal

pub returns-clause-says : goal.returns-clause-says
returns-clause-says g c = says_both c.make_room.ensures.says (c.take_piece.ensures.says _ _)
