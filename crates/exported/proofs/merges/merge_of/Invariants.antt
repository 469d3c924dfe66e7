use Rattle.std.proofs.Common.{◌≡◌, ◌++◌, drop}
use Rattle.exported.specs.Merges.{merge_inputs}
use Rattle.exported.proofs.merges.merge_of.Given as goal

-- the inputs so far, and those of what is left
abbrev pub invariant-loop-number : goal.invariant-loop-number
invariant-loop-number l = l.inputs ++ merge_inputs l.number (drop l.number l.digests) ≡ merge_inputs 0 l.digests
