use Rattle.entries.proofs.SlabFacts.{next_added}
use Rattle.entries.proofs.making.slab_of.Goals as goal

pub loop-one-preserved : goal.loop-one-preserved
loop-one-preserved c = next_added c.args.spelled.now c.loop-one.one-index c.loop-one.bytes.items c.add_short.new.bytes.items c.loop-one-test.true c.loop-one.invariant c.in_ok-add_short.ensures
