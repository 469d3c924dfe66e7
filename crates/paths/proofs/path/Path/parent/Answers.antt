use Rattle.paths.proofs.WalkLaws.{clean-take}
use Rattle.paths.proofs.path.Path.parent.Goals as goal

pub from_parts-requires : goal.from_parts-requires
from_parts-requires c = rw (c.in_ok-copied_items-in-len1-up.ensures, c.components.ensures.value) (clean-take _ _ c.components.ensures.clean)
