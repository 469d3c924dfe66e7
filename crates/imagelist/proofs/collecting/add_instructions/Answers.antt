use Rattle.std.proofs.Common.{◌+◌, drop}
use Rattle.imagelist.proofs.CollectFacts.{inside_step, next_item}
use Rattle.imagelist.proofs.collecting.add_instructions.Goals as goal

pub loop-resolved-preserved : goal.loop-resolved-preserved
loop-resolved-preserved c =
    let instructions = c.args.instructions.now in
    let index = c.loop-resolved.resolved-index in
    inside_step c.args.needed c.loop-resolved.rows c.add_origins.new.rows (drop index instructions) (drop (index + 1) instructions) c.resolved-item.result c.line-line.result
    c.as_slice.result.now _ (next_item instructions index c.resolved-item.result c.loop-resolved-test.true c.resolved-item.is) c.line-line.ensures c.as_slice.ensures
    c.in_ok-add_origins.ensures c.loop-resolved.invariant
