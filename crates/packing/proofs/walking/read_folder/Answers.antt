use Rattle.std.proofs.Common.{subst, sym}
use Rattle.packing.specs.Leaving.{Gathers}
use Rattle.packing.proofs.GatherFacts.{gathers_none}
use Rattle.packing.proofs.walking.read_folder.Goals as goal

pub read_all-requires : goal.read_all-requires
read_all-requires g c = subst (Gathers c.args.leaving.now) (sym c.new-found.ensures) (gathers_none c.args.leaving.now)
