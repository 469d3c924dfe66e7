use Rattle.std.proofs.Common.{◌≡◌, ◌∙◌, sym}
use Rattle.trees.specs.PrivateNode.{node_of}
use Rattle.trees.specs.PrivateSeen.{seen}
use Rattle.std.proofs.lemmas.Result.{IfOk-weaker}
use Rattle.trees.proofs.SeenSteps.{kids-node, seen_kids-plain}
use Rattle.trees.proofs.inner.Inner.kids_placed.Goals as goal

pub returns-then-is_keeping : goal.returns-then-is_keeping
returns-then-is_keeping c =
    let o = c.args.options.now in
    let self = c.args.self.now in
    IfOk-weaker c.copy.result (λ kids. kids ≡ c.self.inside.kids) (λ kids. node_of (seen o self).top kids ≡ seen o self)
    (λ kids same. kids-node o c.self.inside.entry c.self.inside.kids kids self c.self.view_is (same ∙ sym (seen_kids-plain o (c.is_keeping.ensures c.if-is_keeping.true) c.self.inside.kids))) c.copy.ensures

pub returns-else-is_keeping : goal.returns-else-is_keeping
returns-else-is_keeping c =
    let o = c.args.options.now in
    let self = c.args.self.now in
    IfOk-weaker c.placed.result _ (λ kids. node_of (seen o self).top kids ≡ seen o self)
    (λ kids same. kids-node o c.self.inside.entry c.self.inside.kids kids self c.self.view_is same) c.placed.ensures
