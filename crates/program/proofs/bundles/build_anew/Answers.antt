use Rattle.program.proofs.bundles.build_anew.Goals as goal

pub returns-clause-ends : goal.returns-clause-ends
returns-clause-ends g c = (c.run_build_keeping-ended.result, c.run_build_keeping-ended.ensures.ends, c.as_told.ensures)
