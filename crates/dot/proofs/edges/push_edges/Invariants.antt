use Rattle.std.proofs.Common.{◌≡◌, ◌++◌, drop, string_bytes}
use Rattle.dot.specs.Drawn.{lines_of, edges}
use Rattle.dot.proofs.edges.push_edges.Given as goal

-- the edges so far, and those that are left
abbrev pub invariant-loop-number : goal.invariant-loop-number
invariant-loop-number l =
    string_bytes l.out ++ lines_of (edges l.ids l.number (drop l.number l.vertices)) ≡ string_bytes l.fn.out ++ lines_of (edges l.ids 0 l.vertices)
