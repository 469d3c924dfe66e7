use Rattle.std.proofs.Common.{◌≡◌, drop}
use Rattle.expand.specs.PrivateForm.{are_ordinary}
use Rattle.expand.proofs.form.are_ordinary.Given as goal

abbrev pub invariant-loop-byte : goal.invariant-loop-byte
invariant-loop-byte l = are_ordinary l.kind l.escape (drop l.byte-index l.bytes) ≡ are_ordinary l.kind l.escape l.bytes
