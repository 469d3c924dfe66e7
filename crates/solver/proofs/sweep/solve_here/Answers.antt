use Rattle.solver.proofs.sweep.solve_here.Goals as goal

pub returns-clause-answer : goal.returns-clause-answer
returns-clause-answer g c = c.answer_of.ensures (g.E.Executor.out c.args.executor.now) c.in_ok-solution.ensures.solution
