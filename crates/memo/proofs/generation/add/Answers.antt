use Rattle.std.proofs.Common.{List, map}
use Rattle.trees.specs.TreeMap.{TreeMap}
use Rattle.memo.specs.Memo.{entry_of}
use Rattle.memo.proofs.GenerationLemmas.{added-entries, added-placed}
use Rattle.memo.proofs.generation.add.Goals as goal

pub returns-clause-ok : goal.returns-clause-ok
returns-clause-ok c =
    let trees : List TreeMap = map (λ lent. lent.now) c.args.inputs.now in
    added-entries c.args.trees.now.items c.kept_step.new.trees.items c.args.steps.now.items c.push.new.steps.items c.in_ok-step.step (entry_of c.args.op.now trees c.args.tree.now) c.push.result c.in_ok-step.ensures.more c.requires.placed c.in_ok-step.ensures.step c.push.ensures.ok

pub returns-clause-placed : goal.returns-clause-placed
returns-clause-placed c =
    added-placed c.args.trees.now.items c.kept_step.new.trees.items c.args.steps.now.items c.push.new.steps.items c.in_ok-step.step c.push.result c.in_ok-step.ensures.more c.requires.placed c.in_ok-step.ensures.placed c.push.ensures.ok
