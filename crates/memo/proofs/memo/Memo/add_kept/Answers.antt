use Rattle.std.proofs.Common.{List, sym, subst}
use Rattle.trees.specs.TreeMap.{TreeMap}
use Rattle.memo.specs.Memo.{Entry, entry_of, IsLawful}
use Rattle.memo.specs.PrivateGeneration.{tree_at, trees_at}
use Rattle.memo.proofs.MemoLemmas.{entered-lawful}
use Rattle.memo.proofs.memo.Memo.add_kept.Goals as goal

pub invariant_of-self : goal.invariant_of-self
invariant_of-self g c =
    let kept : List TreeMap = c.self.inside.recent.trees in
    let entry : Entry = entry_of c.args.op.now (trees_at kept c.args.inputs) (tree_at kept c.args.tree) in
    let out = g.E.Executor.out c.self.inside.executor.now in
    let lawful : IsLawful out entry =
    subst (λ m. IsLawful (g.E.Executor.out m.executor) (entry_of c.args.op.now (trees_at m.recent.trees c.args.inputs) (tree_at m.recent.trees c.args.tree))) (sym c.self.view_is) c.requires.lawful in
    (entered-lawful out c.self.inside.recent c.enter.new.self entry kept c.enter.result c.enter.ensures.ok c.enter.ensures.err c.self.invariant.0 lawful, c.self.invariant.1)
