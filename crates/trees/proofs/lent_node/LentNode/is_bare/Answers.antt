use Rattle.std.proofs.Common.{◌∙◌, sym, ap, true≢false}
use Rattle.trees.specs.PrivateNode.{NodeValue, joined}
use Rattle.trees.proofs.MeetSteps.{full-kid}
use Rattle.trees.proofs.lent_node.LentNode.is_bare.Goals as goal

pub returns-in-None-clause-bare : goal.returns-in-None-clause-bare
returns-in-None-clause-bare c = λ _. sym (ap (λ (n : NodeValue). n.below) c.in-None.ensures)

pub returns-in-Some-clause-bare : goal.returns-in-Some-clause-bare
returns-in-Some-clause-bare c = λ none. sym (ap (λ (n : NodeValue). n.below) c.in-Some.ensures) ∙ ap joined (c.is_none.ensures.0 none)

pub returns-in-Some-clause-full : goal.returns-in-Some-clause-full
returns-in-Some-clause-full c = λ f. full-kid c.args.self.now c.args.self.now.top c.in-Some.kids c.in-Some.ensures (λ none. true≢false (sym (c.is_none.ensures.1 none) ∙ f))
