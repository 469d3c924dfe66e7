use Rattle.std.proofs.Common.{◌≡◌, map, take}
use Rattle.exported.specs.Operations.{input_at}
use Rattle.exported.proofs.operations.inputs_at.Given as goal

-- the inputs of the digests so far
abbrev pub invariant-loop-digest : goal.invariant-loop-digest
invariant-loop-digest l = l.inputs ≡ map input_at (take l.digest-index l.digests)
