use Rattle.std.proofs.Common.{◌≡◌, length}
use Rattle.solver.specs.PrivateRemembering.{AreKept}
use Rattle.solver.proofs.remembering.known_numbers.Given as goal

-- the numbers so far are those of the first vertices
abbrev pub invariant-loop-number : goal.invariant-loop-number
invariant-loop-number g l = (length l.kept.items ≡ l.number) × AreKept g.N.Numbering.values g.N.Numbering.recent l.kept.items
