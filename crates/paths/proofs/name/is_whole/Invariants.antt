use Rattle.std.proofs.Common.{◌≡◌, drop}
use Rattle.paths.specs.Path.{is_whole}
use Rattle.paths.proofs.name.is_whole.Given as goal

abbrev pub invariant-loop-byte : goal.invariant-loop-byte
invariant-loop-byte l = is_whole (drop l.byte-index l.bytes) ≡ is_whole l.bytes
