use Rattle.std.proofs.Common.{◌≡◌, drop}
use Rattle.entries.specs.PrivateFingerprint.{after_name}
use Rattle.entries.proofs.fingerprint.after_name.Given as goal

-- the bytes that are left go on from the fingerprint so far
abbrev pub invariant-loop-byte : goal.invariant-loop-byte
invariant-loop-byte l = after_name l.fn.directory l.bytes ≡ after_name l.number (drop l.byte-index l.bytes)
