use Rattle.std.proofs.Common.{List, map, sym, subst}
use Rattle.trees.specs.TreeMap.{TreeMap}
use Rattle.memo.specs.Memo.{Entry, entry_of, IsLawful}
use Rattle.memo.proofs.MemoLemmas.{added-lawful}
use Rattle.memo.proofs.memo.Memo.add.Goals as goal

pub invariant_of-self : goal.invariant_of-self
invariant_of-self g c =
    let trees : List TreeMap = map (λ lent. lent.now) c.args.inputs.now in
    let entry : Entry = entry_of c.args.op.now trees c.args.tree.now in
    let out = g.E.Executor.out c.self.inside.executor.now in
    let lawful : IsLawful out entry = subst (λ m. IsLawful (g.E.Executor.out m.executor) entry) (sym c.self.view_is) c.requires in
    (added-lawful out c.self.inside.recent c.add.new.self entry c.add.result c.add.ensures.ok c.add.ensures.err c.self.invariant.0 lawful, c.self.invariant.1)
