use Rattle.std.proofs.Common.{take}
use Rattle.ignorefile.specs.PrivateRanks.{IsDecided}
use Rattle.ignorefile.proofs.index.Index.rank.Given as goal

abbrev pub invariant-loop-depth : goal.invariant-loop-depth
invariant-loop-depth l = IsDecided l.lines (take l.depth l.names) l.decided
