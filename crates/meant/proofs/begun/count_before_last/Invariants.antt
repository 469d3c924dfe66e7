use Rattle.std.proofs.Common.{◌≡◌, ◌≤◌, false, drop, length, map}
use Rattle.std.specs.List.{list_any}
use Rattle.meant.specs.Begun.{begins_stage}
use Rattle.meant.proofs.begun.count_before_last.Given as goal

-- none of the lines that were looked at begins a stage
abbrev pub invariant-lines : goal.invariant-lines
invariant-lines l =
    (l.place ≤ length l.lines) × (list_any begins_stage (drop l.place (map (λ line. line.now) l.lines)) ≡ false)

abbrev pub decreases-lines : goal.decreases-lines
decreases-lines l = l.place
