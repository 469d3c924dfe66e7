use Rattle.std.proofs.Common.{subst, sym}
use Rattle.wire.specs.Maps.{Ascends, IsAfter}
use Rattle.wire.proofs.MapLemmas.{ascends_more}
use Rattle.wire.proofs.map.Map.push.Goals as goal

pub invariant_of-self-2 : goal.invariant_of-self-2
invariant_of-self-2 g c =
    let after = c.is_after.ensures.0 c.if-not-is_after.false in
    subst Ascends (sym c.in_ok-push.ensures.items)
    (ascends_more c.self.inside.entries.items (c.args.key, c.args.value) c.self.invariant
    (subst (IsAfter c.args.key) c.as_slice.ensures.value after))
