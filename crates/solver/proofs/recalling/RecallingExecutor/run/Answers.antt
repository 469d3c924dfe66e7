use Rattle.std.proofs.Common.{inl, OnOk, subst}
use Rattle.solver.specs.Recall.{leaves_or_stays}
use Rattle.solver.proofs.RecallLemmas.{on-ok-more}
use Rattle.solver.proofs.recalling.RecallingExecutor.run.Goals as goal

-- what the executor leaves
pub returns-clause-left : goal.returns-clause-left
returns-clause-left g c =
    let leaves = g.E.Executor.leaves c.args.self.now in
    let request = c.args.request.now in
    let before = c.args.caches.now.items in
    let after = c.run.new.caches.items in
    let left = subst (λ executor. OnOk c.run.result (g.E.Executor.leaves executor request before after)) c.self.view_is c.run.ensures.left in
    on-ok-more (leaves request before after) (leaves_or_stays g.N.Numbering.knows leaves request before after) c.run.result inl left
