use Rattle.std.proofs.Common.{◌++◌, ◌∷◌, []}
use Rattle.memo.proofs.MemoLemmas.{kept-lawful}
use Rattle.memo.proofs.memo.Memo.keep_source.Goals as goal

pub invariant_of-self : goal.invariant_of-self
invariant_of-self g c =
    let out = g.E.Executor.out c.self.inside.executor.now in
    (kept-lawful out c.self.inside.recent c.keep_source.new.self (c.self.inside.recent.trees ++ c.args.tree.now ∷ []) c.keep_source.result c.keep_source.ensures.ok c.keep_source.ensures.err c.self.invariant.0, c.self.invariant.1)
