use Rattle.trees.specs.Rows.{lent_names}
use Rattle.entries.specs.PrivateFront.{HoldsNames}
use Rattle.entries.proofs.front.PathFront.hold.Given as goal

abbrev pub invariant-loop-tried : goal.invariant-loop-tried
invariant-loop-tried l = HoldsNames (lent_names l.names) l.self.names l.self
