use Rattle.std.proofs.Common.{take}
use Rattle.entries.specs.PrivateSlab.{AreIn}
use Rattle.entries.proofs.making.slab_of.Given as goal

-- the bytes of the entries so far were added
abbrev pub invariant-loop-one : goal.invariant-loop-one
invariant-loop-one l = AreIn (take l.one-index l.spelled) l.bytes.items
