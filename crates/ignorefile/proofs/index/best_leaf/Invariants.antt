use Rattle.ignorefile.specs.PrivateLeft.{positions_in}
use Rattle.ignorefile.proofs.Lines.{AreMissed}
use Rattle.ignorefile.proofs.index.best_leaf.Given as goal

abbrev pub invariant-loop-passed : goal.invariant-loop-passed
invariant-loop-passed l = AreMissed l.lines (positions_in l.leaves) l.passed l.names
