use Rattle.std.proofs.Common.{◌≡◌, drop}
use Rattle.entries.specs.PrivateFingerprint.{after_names, fingerprint}
use Rattle.entries.proofs.fingerprint.fingerprint.Given as goal

-- the names that are left go on from the fingerprint so far
abbrev pub invariant-loop-name : goal.invariant-loop-name
invariant-loop-name l = fingerprint l.names ≡ after_names l.number (drop l.name-index l.names)
