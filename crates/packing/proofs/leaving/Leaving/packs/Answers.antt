use Rattle.std.proofs.Common.{◌∙◌, ap, sym}
use Rattle.packing.specs.Leaving.{is_own}
use Rattle.packing.proofs.GatherFacts.{packed_else}
use Rattle.packing.proofs.leaving.Leaving.packs.Goals as goal

pub returns-else-is_own : goal.returns-else-is_own
returns-else-is_own c =
    packed_else c.args.self.now c.args.at.now.lines c.args.at.now.path c.is_kept.result c.requires
    (ap (is_own c.args.self.now.dockerfile) (sym c.path.ensures) ∙ sym c.is_own.ensures ∙ c.if-is_own.false) c.is_kept.ensures
