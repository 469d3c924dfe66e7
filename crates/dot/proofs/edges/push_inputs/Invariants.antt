use Rattle.std.proofs.Common.{◌≡◌, ◌++◌, drop, string_bytes}
use Rattle.dot.specs.Drawn.{lines_of, inputs}
use Rattle.dot.proofs.edges.push_inputs.Given as goal

-- the edges so far, and those that are left
abbrev pub invariant-loop-place : goal.invariant-loop-place
invariant-loop-place l =
    string_bytes l.out ++ lines_of (inputs l.to l.op l.place (drop l.place l.ids)) ≡ string_bytes l.fn.out ++ lines_of (inputs l.to l.op 0 l.ids)
