use Rattle.std.proofs.Common.{◌≤◌, ◌-◌, length, take}
use Rattle.entries.specs.PrivateKeys.{AddsRows}
use Rattle.entries.proofs.making.add_in_turn.Given as goal

-- the rows of those so far were added
abbrev pub invariant-slabs : goal.invariant-slabs
invariant-slabs l = (l.at ≤ length l.spelled) × AddsRows (take l.at l.spelled) l.initial.rows.items l.rows.items

abbrev pub decreases-slabs : goal.decreases-slabs
decreases-slabs l = length l.spelled - l.at
