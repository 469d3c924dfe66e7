use Rattle.std.proofs.Common.{length, sym, ◌∙◌}
use Rattle.definition.proofs.ReadingFacts.{said, reading-on, reading-room, values-start, values-end, values-fault}
use Rattle.definition.proofs.reading.read_operations.Goals as goal

pub read_operation-requires : goal.read_operation-requires
read_operation-requires c = reading-room c.loop-value.value-iterator.rest.items c.next.new.self.rest.items c.in-Some.value (length c.loop-value.known.vertices) c.loop-value.invariant.1 c.in-Some.ensures.steps.0

pub loop-value-init : goal.loop-value-init
loop-value-init c = values-start c.args.says_lines c.into_iter-value-iterator.result.rest.items c.args.operations.items c.new-known.result c.new-known.ensures c.into_iter-value-iterator.ensures.into_iter_gives.0 c.requires

pub loop-value-preserved : goal.loop-value-preserved
loop-value-preserved c =
    reading-on (said c.args.says_lines) c.loop-value.value-iterator.rest.items c.next.new.self.rest.items c.in-Some.value c.loop-value.known c.in-Ok.more _ c.loop-value.invariant c.in-Some.ensures.steps.0 c.in-Ok.ensures

pub returns-in-Err : goal.returns-in-Err
returns-in-Err c =
    values-fault c.args.says_lines c.loop-value.value-iterator.rest.items c.next.new.self.rest.items c.into_iter-value-iterator.result.rest.items c.args.operations.items c.in-Some.value c.loop-value.known c.in-Err.fault c.loop-value.invariant c.in-Some.ensures.steps.0
    c.into_iter-value-iterator.ensures.into_iter_gives.0 c.in-Err.ensures

pub returns : goal.returns
returns c =
    values-end c.args.says_lines c.loop-value.value-iterator.rest.items c.into_iter-value-iterator.result.rest.items c.args.operations.items c.loop-value.known c.loop-value.invariant (sym c.loop-value.value-iterator.rest.ok.0 ∙ c.in-None.ensures.steps.0)
    c.into_iter-value-iterator.ensures.into_iter_gives.0
