use Rattle.solver.specs.PrivateRemembering.{Remembers}
use Rattle.solver.proofs.remembering.remember_all.Given as goal

-- the memo has grown, and the numbers are those of its trees
abbrev pub invariant-loop-number : goal.invariant-loop-number
invariant-loop-number g l = Remembers g.N.Numbering.values l.fn.memo l.memo l.kept.items
