use Rattle.std.proofs.Common.{◌≡◌, ◌-◌, ◌≤◌, length, drop}
use Rattle.entries.proofs.together.skip_rows.Given as goal

-- so many entries are behind it
abbrev pub invariant-loop-done : goal.invariant-loop-done
invariant-loop-done l = record {
  left : l.walk.left ≡ drop l.done l.fn.walk.left;
  inside : l.done ≤ length l.fn.walk.left;
  few : l.done ≤ l.fn.most;
}

-- each step goes past one at least
abbrev pub decreases-loop-done : goal.decreases-loop-done
decreases-loop-done l = l.fn.most - l.done
