use Rattle.std.proofs.Common.{◌≡◌, map, length}
use Rattle.titles.specs.Ends.{ends_after, ends_of}
use Rattle.titles.proofs.ends.ends_of.Given as goal

abbrev pub decreases-instructions : goal.decreases-instructions
decreases-instructions l = length l.left

-- the ends so far, and those of the instructions left
abbrev pub invariant-instructions : goal.invariant-instructions
invariant-instructions l = ends_after (map (λ line. line.now) l.all.items) l.left l.ends ≡ ends_of l.text l.lines
