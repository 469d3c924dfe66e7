use Rattle.std.proofs.Common.{◌≡◌, ◌++◌, drop}
use Rattle.exported.specs.Following.{inputs_paths}
use Rattle.exported.proofs.following.push_inputs.Given as goal

-- the paths so far, and those of what is left
abbrev pub invariant-loop-number : goal.invariant-loop-number
invariant-loop-number l =
    l.paths ++ inputs_paths l.vertices l.vertex.op l.number (drop l.number l.vertex.inputs) ≡ l.fn.paths ++ inputs_paths l.vertices l.vertex.op 0 l.vertex.inputs
