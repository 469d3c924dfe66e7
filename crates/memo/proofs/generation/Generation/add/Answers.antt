use Rattle.std.proofs.Common.{List, map, subst}
use Rattle.trees.specs.TreeMap.{TreeMap}
use Rattle.memo.specs.Memo.{GenerationValue, entry_of}
use Rattle.memo.specs.PrivateGeneration.{AddsTo, entries_at}
use Rattle.memo.proofs.generation.Generation.add.Goals as goal

pub returns-in-Ok-clause-ok : goal.returns-in-Ok-clause-ok
returns-in-Ok-clause-ok c =
    let trees : List TreeMap = map (λ lent. lent.now) c.args.inputs.now in
    let new : GenerationValue = record { entries = entries_at c.add-added.new.trees.items c.add-added.new.steps.items; trees = c.add-added.new.trees.items } in
    subst (λ g. AddsTo g new (entry_of c.args.op.now trees c.args.tree.now)) c.self.view_is (record { entries = c.in-Ok.ensures.ok; trees = c.in-Ok.ensures.more })
