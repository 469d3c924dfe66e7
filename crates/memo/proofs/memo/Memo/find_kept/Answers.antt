use Rattle.std.proofs.Common.{subst}
use Rattle.std.specs.Prelude.{IfSome}
use Rattle.memo.specs.Kept.{Keeps, kept_tree, kept_trees}
use Rattle.memo.specs.Memo.{Has}
use Rattle.memo.proofs.MemoLemmas.{kept-found-lawful}
use Rattle.memo.proofs.memo.Memo.find_kept.Goals as goal

pub returns-clause-keeps : goal.returns-clause-keeps
returns-clause-keeps g c = subst (λ h. IfSome c.find_kept.result (Keeps h)) c.generation.ensures c.find_kept.ensures.below

pub returns-clause-found : goal.returns-clause-found
returns-clause-found g c =
    subst (λ h. IfSome c.find_kept.result (λ number. Has h.entries c.args.op.now (kept_trees h c.args.inputs.now) (kept_tree h number))) c.generation.ensures c.find_kept.ensures.found

pub returns-clause-lawful : goal.returns-clause-lawful
returns-clause-lawful g c =
    let memo = c.args.self.now in
    let found = subst (λ h. IfSome c.find_kept.result (λ number. Has h.entries c.args.op.now (kept_trees h c.args.inputs.now) (kept_tree h number))) c.generation.ensures c.find_kept.ensures.found in
    kept-found-lawful (g.E.Executor.out memo.executor) memo c.args.age c.args.op.now c.args.inputs.now c.find_kept.result c.executor-known.ensures.recent c.executor-known.ensures.earlier found
