use Rattle.std.proofs.Common.{take}
use Rattle.rayon.specs.Lists.{chunks_of}
use Rattle.contexts.proofs.Joining.{Joined}
use Rattle.contexts.proofs.flags.flag_rows.Given as goal

-- the flags so far are those of the runs so far
abbrev pub invariant-loop-run : goal.invariant-loop-run
invariant-loop-run g l = Joined l.ignore (take l.run-index (chunks_of 1024 l.rows)) l.flags.items
