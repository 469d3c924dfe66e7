use Rattle.std.proofs.Common.{sym, subst}
use Rattle.board.specs.Job.{job_problem}
use Rattle.solver.specs.Recall.{AreOf, MayStay}
use Rattle.solver.proofs.sweep.finish_recalled.Goals as goal

pub turn-requires-clause-named : goal.turn-requires-clause-named
turn-requires-clause-named g c κs within =
    subst (λ j. AreOf (job_problem g.E.Executor.out j) g.N.Numbering.out g.N.Numbering.values) (sym c.loop.invariant.job) c.requires.named

pub turn-requires-clause-stays : goal.turn-requires-clause-stays
turn-requires-clause-stays g c κs within =
    subst (λ j. MayStay g.N.Numbering.knows (g.E.Executor.leaves j.executor)) (sym c.loop.invariant.job) c.requires.stays
