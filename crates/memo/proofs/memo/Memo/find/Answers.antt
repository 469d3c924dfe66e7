use Rattle.std.proofs.Common.{List, append-nil, subst}
use Rattle.trees.specs.TreeMap.{TreeMap}
use Rattle.memo.specs.Memo.{Holds}
use Rattle.memo.proofs.MemoLemmas.{held-lawful}
use Rattle.memo.proofs.memo.Memo.find.Goals as goal

pub returns-in-Some-clause-found : goal.returns-in-Some-clause-found
returns-in-Some-clause-found g c =
    subst (λ (trees : List TreeMap). Holds c.args.self.now c.args.op.now trees c.in-Some.hit.tree.now) (append-nil c.args.inputs.now) c.in-Some.ensures.found

pub returns-in-Some-clause-lawful : goal.returns-in-Some-clause-lawful
returns-in-Some-clause-lawful g c =
    held-lawful (g.E.Executor.out c.args.self.now.executor) c.args.self.now c.args.op.now c.args.inputs.now c.in-Some.hit.tree.now c.executor-known.ensures.recent c.executor-known.ensures.earlier
    (subst (λ (trees : List TreeMap). Holds c.args.self.now c.args.op.now trees c.in-Some.hit.tree.now) (append-nil c.args.inputs.now) c.in-Some.ensures.found)

pub returns-in-None-clause-none : goal.returns-in-None-clause-none
returns-in-None-clause-none g c =
    subst (λ (trees : List TreeMap). (tree : TreeMap) → ¬ Holds c.args.self.now c.args.op.now trees tree) (append-nil c.args.inputs.now) c.in-None.ensures.none
