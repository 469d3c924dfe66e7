use Rattle.memo.proofs.GrowLemmas.{grows-same}
use Rattle.solver.proofs.remembering.remember.Goals as goal

pub returns-then-is_for_one_build-clause-grows : goal.returns-then-is_for_one_build-clause-grows
returns-then-is_for_one_build-clause-grows g c = grows-same c.args.memo.now
