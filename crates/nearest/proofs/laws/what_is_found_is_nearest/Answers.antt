use Rattle.std.proofs.Common.{Some}
use Rattle.nearest.proofs.NearestLaws.{nearest-best, nearest-is}
use Rattle.nearest.proofs.laws.what_is_found_is_nearest.Goals as goal

pub returns : goal.returns
returns c word names name = (nearest-best word names (Some name), nearest-is word names (Some name))
