use Rattle.counted.proofs.GatheringFacts.{says_both}
use Rattle.counted.proofs.gathering.gather_after_flush.Goals as goal

pub returns-then-is_room_for-clause-says : goal.returns-then-is_room_for-clause-says
returns-then-is_room_for-clause-says g c = says_both c.flush.ensures.says (c.take_in.ensures.says _ _)

pub returns-else-is_room_for-clause-says : goal.returns-else-is_room_for-clause-says
returns-else-is_room_for-clause-says g c = says_both c.flush.ensures.says c.pass.ensures.says
