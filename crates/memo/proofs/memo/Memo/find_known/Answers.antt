use Rattle.std.proofs.Common.{List, map}
use Rattle.trees.specs.TreeMap.{TreeMap}
use Rattle.memo.proofs.MemoLemmas.{held-lawful}
use Rattle.memo.proofs.memo.Memo.find_known.Goals as goal

pub returns-in-Some-clause-lawful : goal.returns-in-Some-clause-lawful
returns-in-Some-clause-lawful g c =
    let trees : List TreeMap = map (λ lent. lent.now) c.args.inputs.now in
    held-lawful (g.E.Executor.out c.args.self.now.executor) c.args.self.now c.args.op.now trees c.in-Some.hit.tree.now c.executor-known.ensures.recent c.executor-known.ensures.earlier c.in-Some.ensures.found
