use Rattle.std.proofs.Common.{◌≡◌, ◌++◌, drop, map}
use Rattle.meant.specs.Begun.{stages_in}
use Rattle.meant.proofs.begun.stages_in.Given as goal

abbrev pub invariant-loop-line : goal.invariant-loop-line
invariant-loop-line l =
    map (λ name. name.now) l.names.items ++ stages_in (map (λ line. line.now) (drop l.line-index l.lines)) ≡ stages_in (map (λ line. line.now) l.lines)
