use Rattle.std.proofs.Common.{length}
use Rattle.contexts.specs.PrivatePlaces.{HasModes}
use Rattle.contexts.proofs.Rows.{IsFrontOf}
use Rattle.contexts.proofs.places.set_modes.Given as goal

abbrev pub decreases-loop-path : goal.decreases-loop-path
decreases-loop-path l = length l.left.items

-- the directories behind those that are left have their modes
abbrev pub invariant-loop-path : goal.invariant-loop-path
invariant-loop-path l = record {
  front : IsFrontOf l.left.items l.fn.folders.items;
  modes : HasModes l.fn.folders.items (length l.left.items) l.fn.before l.tree;
}
