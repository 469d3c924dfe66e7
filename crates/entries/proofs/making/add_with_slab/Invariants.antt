use Rattle.std.proofs.Common.{◌≡◌, ◌++◌, List, drop, take}
use Rattle.trees.specs.Row.{Row}
use Rattle.entries.specs.PrivateKeys.{AreRowsOf}
use Rattle.entries.specs.PrivateSlab.{AreIn}
use Rattle.entries.proofs.making.add_with_slab.Given as goal

-- the rows that were added are those of the entries so far, and the slab has the bytes of the others
abbrev pub invariant-loop-one : goal.invariant-loop-one
invariant-loop-one l = (made : List Row) × (l.rows.items ≡ l.initial.rows.items ++ made) × AreRowsOf (take l.one-index l.spelled) made × AreIn (drop l.one-index l.spelled) l.slab
