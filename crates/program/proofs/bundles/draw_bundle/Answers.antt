use Rattle.program.proofs.bundles.draw_bundle.Goals as goal

pub returns-then-options-clause-calls : goal.returns-then-options-clause-calls
returns-then-options-clause-calls g c = rw c.if-options.true c.tell_by.ensures.calls

pub returns-else-options-clause-calls : goal.returns-else-options-clause-calls
returns-else-options-clause-calls g c = rw c.if-options.false c.graph_bundle.ensures.calls
