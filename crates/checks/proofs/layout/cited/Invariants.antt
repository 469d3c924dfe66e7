use Rattle.std.proofs.Common.{◌≡◌, ◌++◌, ◌+◌, drop, map, string_bytes}
use Rattle.checks.specs.Layout.{cited}
use Rattle.checks.proofs.layout.cited.Given as goal

-- the lines so far and those that are left are all
abbrev pub invariant-loop-index : goal.invariant-loop-index
invariant-loop-index l =
    string_bytes l.text ++ cited l.widest (l.number + l.index) (map (λ line. line.now) (drop l.index l.own)) ≡ cited l.widest l.number (map (λ line. line.now) l.own)
