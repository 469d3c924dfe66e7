use Rattle.std.proofs.Common.{◌≡◌, drop}
use Rattle.lacking.specs.Missing.{first_lacked}
use Rattle.lacking.proofs.missing.first_lacked.Given as goal

-- the sources that are left decide
abbrev pub invariant-loop-source : goal.invariant-loop-source
invariant-loop-source l = first_lacked l.tree l.sources ≡ first_lacked l.tree (drop l.source-index l.sources)
