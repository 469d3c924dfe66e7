use Rattle.std.proofs.Common.{length, reverse}
use Rattle.contexts.specs.PrivatePlaces.{AreWanted, AreFolders}
use Rattle.contexts.proofs.Rows.{IsFrontOf}
use Rattle.contexts.proofs.places.part_rows.Given as goal

abbrev pub decreases-loop-path : goal.decreases-loop-path
decreases-loop-path l = length l.left.items

-- the rows behind those that are left are parted
abbrev pub invariant-loop-path : goal.invariant-loop-path
invariant-loop-path l = record {
  front : IsFrontOf l.left.items l.fn.rows.items;
  wanted : AreWanted l.fn.rows.items l.flags (length l.left.items) (reverse l.wanted.items);
  folders : AreFolders l.fn.rows.items l.flags (length l.left.items) l.folders.items;
}
