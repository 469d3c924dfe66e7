use Rattle.std.proofs.Common.{ap, refl, [], ◌∷◌}
use Rattle.trees.specs.PrivateNode.{NodeValue}
use Rattle.trees.proofs.NodeSteps.{leaf-planted, chain-step, made-node}
use Rattle.trees.proofs.DepthSteps.{depth-one}
use Rattle.trees.proofs.node.Node.+chain.Goals as goal

pub returns-in-empty : goal.returns-in-empty
returns-in-empty t c = leaf-planted c.leaf.result _ _ _ (ap (λ (n : NodeValue). n.top) c.leaf.ensures) (ap (λ (n : NodeValue). n.below) c.leaf.ensures) c.in-empty.len_below

pub one-requires : goal.one-requires
one-requires t c = depth-one c.args.path.now c.name-item.result c.args.parent c.args.entry c.in_ok-kid-in-len1-up.kid c.in-len1-up.len_at_least c.name-item.is c.in_ok-kid-in-len1-up.ensures

pub returns-in_ok-one-in-len1-up : goal.returns-in_ok-one-in-len1-up
returns-in_ok-one-in-len1-up t c =
    made-node c.of_inner.result _ c.in_ok-one-in-len1-up.field-0 _ c.of_inner.ensures c.in_ok-one-in-len1-up.ensures
    (chain-step ((c.name-item.result, c.in_ok-kid-in-len1-up.kid) ∷ []) c.args.path.now c.name-item.result c.args.parent c.args.entry c.in_ok-kid-in-len1-up.kid c.in-len1-up.len_at_least c.name-item.is refl c.in_ok-kid-in-len1-up.ensures)
