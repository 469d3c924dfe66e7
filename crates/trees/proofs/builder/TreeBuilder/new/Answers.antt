use Rattle.trees.proofs.BuilderSteps.{none-holds, none-value}
use Rattle.trees.proofs.builder.TreeBuilder.new.Goals as goal

pub invariant_of-result : goal.invariant_of-result
invariant_of-result c = none-holds c.new.result.items c.new.ensures.items

pub returns : goal.returns
returns c = none-value c.new.result.items c.new.ensures.items
