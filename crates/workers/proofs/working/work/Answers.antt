use Rattle.solver.proofs.RecallLemmas.{stay-same}
use Rattle.workers.proofs.working.work.Goals as goal

pub run_recalled-ran-requires-clause-stays : goal.run_recalled-ran-requires-clause-stays
run_recalled-ran-requires-clause-stays g c κs within =
    stay-same g.J.Numbering.knows (g.E.Executor.leaves c.args.tools.now.job.now.executor) g.J.Case.leaves c.requires.leaves c.requires.stays
