use Rattle.std.proofs.Common.{◌≡◌, ◌++◌, drop, map, string_bytes}
use Rattle.checks.specs.Layout.{begun}
use Rattle.checks.proofs.layout.push_lines.Given as goal

-- the lines so far and those that are left are all
abbrev pub invariant-loop-line : goal.invariant-loop-line
invariant-loop-line l =
    string_bytes l.text ++ begun (map (λ line. line.now) (drop l.line-index l.lines)) ≡ string_bytes l.fn.text ++ begun (map (λ line. line.now) l.lines)
