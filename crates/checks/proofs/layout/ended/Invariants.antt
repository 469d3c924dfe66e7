use Rattle.std.proofs.Common.{◌≡◌, ◌++◌, drop, map, string_bytes}
use Rattle.checks.specs.Layout.{ended}
use Rattle.checks.proofs.layout.ended.Given as goal

-- the lines so far and those that are left are all
abbrev pub invariant-loop-line : goal.invariant-loop-line
invariant-loop-line l = string_bytes l.text ++ ended (map (λ line. line.now) (drop l.line-index l.lines)) ≡ ended (map (λ line. line.now) l.lines)
