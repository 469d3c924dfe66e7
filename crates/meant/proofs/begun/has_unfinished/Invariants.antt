use Rattle.std.proofs.Common.{◌≡◌, drop, map}
use Rattle.std.specs.List.{list_any}
use Rattle.meant.specs.Begun.{is_unfinished}
use Rattle.meant.proofs.begun.has_unfinished.Given as goal

-- the lines that are left decide
abbrev pub invariant-loop-line : goal.invariant-loop-line
invariant-loop-line l = list_any is_unfinished (map (λ line. line.now) (drop l.line-index l.lines)) ≡ list_any is_unfinished (map (λ line. line.now) l.lines)
