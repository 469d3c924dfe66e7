use Rattle.program.proofs.bundles.draw_anew.Goals as goal

pub returns-clause-ends : goal.returns-clause-ends
returns-clause-ends g c = (c.run_graph.result, c.run_graph.ensures.ends, c.as_told.ensures)
