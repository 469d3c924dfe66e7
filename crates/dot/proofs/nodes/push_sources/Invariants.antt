use Rattle.std.proofs.Common.{◌≡◌, ◌++◌, drop, string_bytes}
use Rattle.dot.specs.Drawn.{lines_of, sources}
use Rattle.dot.proofs.nodes.push_sources.Given as goal

-- the sources so far, and those that are left
abbrev pub invariant-loop-number : goal.invariant-loop-number
invariant-loop-number l =
    string_bytes l.out ++ lines_of (sources l.titles l.target l.graph.places l.number (drop l.number l.vertices))
    ≡ string_bytes l.fn.out ++ lines_of (sources l.titles l.target l.graph.places 0 l.vertices)
