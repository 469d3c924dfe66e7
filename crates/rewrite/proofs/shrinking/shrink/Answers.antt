use Rattle.std.proofs.lemmas.Result.{IfOk-weaker}
use Rattle.rewrite.proofs.LawFacts.{lined, flat_lined}
use Rattle.rewrite.proofs.OrderFacts.{pruned_in_order, flat_in_order}
use Rattle.rewrite.proofs.shrinking.shrink.Goals as goal

pub returns-then-branch-clause-order : goal.returns-then-branch-clause-order
returns-then-branch-clause-order g c =
    IfOk-weaker c.prune.result _ _ (λ smaller is. pruned_in_order c.args.plan smaller is) c.prune.ensures.pruned

pub returns-then-branch-clause-lined : goal.returns-then-branch-clause-lined
returns-then-branch-clause-lined g c =
    IfOk-weaker c.prune.result _ _ (λ smaller is are id lt. lined c.args.plan smaller id are is lt) c.prune.ensures.pruned

pub returns-clause-order : goal.returns-clause-order
returns-clause-order g c =
    IfOk-weaker c.flatten_links.result _ _ (λ smaller is. flat_in_order c.args.plan smaller is) c.flatten_links.ensures.flattened

pub returns-clause-lined : goal.returns-clause-lined
returns-clause-lined g c =
    IfOk-weaker c.flatten_links.result _ _ (λ smaller is are id lt. flat_lined c.args.plan smaller id are is lt) c.flatten_links.ensures.flattened
