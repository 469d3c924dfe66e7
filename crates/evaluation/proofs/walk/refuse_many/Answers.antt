use Rattle.std.proofs.Common.{sym, ◌∙◌}
use Rattle.evaluation.proofs.WalkFacts.{few_refused, few_all}
use Rattle.evaluation.proofs.walk.refuse_many.Goals as goal

pub returns-then-are_many : goal.returns-then-are_many
returns-then-are_many c = few_refused _ _ _ c.many_images.ensures (sym c.are_many.ensures ∙ c.if-are_many.true)

pub returns : goal.returns
returns c = few_all _ _ (sym c.are_many.ensures ∙ c.if-are_many.false)
