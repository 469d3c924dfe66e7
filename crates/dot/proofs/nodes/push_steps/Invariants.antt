use Rattle.std.proofs.Common.{◌≡◌, ◌++◌, [], drop, string_bytes}
use denote.Shadow.{shadow}
use denote.Text.{Utf8}
use Rattle.dot.specs.Drawn.{lines_of, steps}
use Rattle.dot.proofs.nodes.push_steps.Given as goal

-- the operations so far, and those that are left
abbrev pub invariant-loop-number : goal.invariant-loop-number
invariant-loop-number l = record {
  text : shadow (Utf8 l.stage);
  all : string_bytes l.out ++ lines_of (steps l.titles l.target l.graph.places l.stage l.number (drop l.number l.vertices))
      ≡ string_bytes l.fn.out ++ lines_of (steps l.titles l.target l.graph.places [] 0 l.vertices);
}
