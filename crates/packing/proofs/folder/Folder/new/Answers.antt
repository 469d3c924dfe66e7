use Rattle.std.proofs.Common.{sym, subst}
use Rattle.packing.specs.Packed.{IsPlain}
use Rattle.packing.proofs.PlainFacts.{plain_empty}
use Rattle.packing.proofs.folder.Folder.new.Goals as goal

pub invariant_of-result : goal.invariant_of-result
invariant_of-result c = subst IsPlain (sym c.empty.ensures) plain_empty
