use Rattle.std.proofs.Common.{◌∙◌, ap, [], ◌∷◌}
use Rattle.trees.specs.PrivateNode.{NodeValue, node_of}
use Rattle.trees.proofs.BelowSteps.{leaf-set, leaf-plant}
use Rattle.trees.proofs.DepthSteps.{depth-one}
use Rattle.trees.proofs.node.Node.plant_leaf.Goals as goal

pub one-requires : goal.one-requires
one-requires c = depth-one c.args.path.now c.name-item.result c.args.parent c.args.entry c.in_ok-first-in-len1-up.first c.in-len1-up.len_at_least c.name-item.is c.in_ok-first-in-len1-up.ensures

pub returns-in-empty-clause-ok : goal.returns-in-empty-clause-ok
returns-in-empty-clause-ok c =
    leaf-set c.args.self.now c.leaf.result c.args.path.now c.args.parent c.args.entry c.requires (ap (λ (n : NodeValue). n.top) c.leaf.ensures) (ap (λ (n : NodeValue). n.below) c.leaf.ensures) c.in-empty.len_below

pub returns-in_ok-self-in-len1-up-clause-ok : goal.returns-in_ok-self-in-len1-up-clause-ok
returns-in_ok-self-in-len1-up-clause-ok c =
    let kid = c.in_ok-first-in-len1-up.first in
    leaf-plant c.args.self.now c.in_ok-self-in-len1-up.field-0 c.args.path.now c.name-item.result c.args.parent c.args.entry kid c.requires
    (c.in_ok-self-in-len1-up.ensures ∙ c.in_ok-one-in-len1-up.ensures ∙ ap (λ e. node_of e ((c.name-item.result, kid) ∷ [])) (c.in_ok-top-in-len1-up.ensures ∙ c.entry.ensures ∙ ap (λ (n : NodeValue). n.top) c.lent.ensures)) c.in-len1-up.len_at_least c.name-item.is c.in_ok-first-in-len1-up.ensures
