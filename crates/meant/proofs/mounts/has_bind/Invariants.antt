use Rattle.std.proofs.Common.{◌≡◌, drop, map}
use Rattle.meant.specs.Mounts.{has_bind}
use Rattle.meant.proofs.mounts.has_bind.Given as goal

-- the lines that are left decide
abbrev pub invariant-loop-line : goal.invariant-loop-line
invariant-loop-line l = has_bind (map (λ line. line.now) (drop l.line-index l.own)) ≡ has_bind (map (λ line. line.now) l.own)
