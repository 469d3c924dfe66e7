use Rattle.std.proofs.Common.{subst}
use Rattle.packing.specs.Leaving.{Keeping}
use Rattle.packing.specs.PrivateLeaving.{ExceptNothing}
use Rattle.packing.proofs.GatherFacts.{whole_kept, whole_result_left}
use Rattle.packing.proofs.leaving.Leaving.leaves_whole.Goals as goal

pub returns-then-not-is_own : goal.returns-then-not-is_own
returns-then-not-is_own c =
    whole_kept c.args.self.now c.args.at.now.lines c.args.at.now.path c.path.result.now c.is_own.result c.may_keep.result c.requires c.path.ensures c.is_own.ensures
    c.if-not-is_own.true c.may_keep.ensures

pub returns : goal.returns
returns c = λ left.
    whole_result_left c.args.self.now c.args.at.now.path c.packs.result
    (subst (λ (k : Keeping). ExceptNothing k.lines) c.self.view_is (c.self.invariant c.if-self.false)) c.packs.ensures left
