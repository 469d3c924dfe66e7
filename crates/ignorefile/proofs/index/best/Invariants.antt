use Rattle.ignorefile.proofs.Lines.{AreMissed}
use Rattle.ignorefile.proofs.index.best.Given as goal

abbrev pub invariant-loop-passed : goal.invariant-loop-passed
invariant-loop-passed l = AreMissed l.lines l.positions l.passed l.names
