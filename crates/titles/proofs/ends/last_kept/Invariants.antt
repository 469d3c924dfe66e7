use Rattle.std.proofs.Common.{◌≡◌, ◌+◌, map, drop}
use Rattle.titles.specs.Ends.{last_kept}
use Rattle.titles.proofs.ends.last_kept.Given as goal

-- the last line so far, and what is left
abbrev pub invariant-loop-index : goal.invariant-loop-index
invariant-loop-index l =
    last_kept l.escape l.last (l.first + l.index) (map (λ line. line.now) (drop l.index l.lines))
    ≡ last_kept l.escape l.first l.first (map (λ line. line.now) l.lines)
