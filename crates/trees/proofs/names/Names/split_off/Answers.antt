use Rattle.trees.proofs.NameSteps.{first-rise, second-rise}
use Rattle.trees.proofs.names.Names.split_off.Goals as goal

pub invariant_of-new : goal.invariant_of-new
invariant_of-new c = second-rise c.self.inside.rows.items c.in_ok-rows.rows.items c.args.at c.in_ok-rows.ensures.tail c.self.invariant

pub invariant_of-self-in-Ok : goal.invariant_of-self-in-Ok
invariant_of-self-in-Ok c = first-rise c.self.inside.rows.items c.split_off.new.self.items c.args.at c.in_ok-rows.ensures.items c.self.invariant
