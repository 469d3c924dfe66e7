use Rattle.std.proofs.Common.{None}
use Rattle.nearest.proofs.NearestLaws.{nearest-best, nearest-is}
use Rattle.nearest.proofs.laws.nothing_is_found_if_none_is_near.Goals as goal

pub returns : goal.returns
returns c word names = (nearest-best word names None, nearest-is word names None)
