use Rattle.std.proofs.Common.{◌≡◌, ◌++◌, map, take, drop}
use Rattle.trees.specs.Row.{Row}
use Rattle.entries.specs.PrivateFingerprint.{fingerprint, file_fingerprints}
use Rattle.entries.proofs.fingerprint.read_fingerprints.Given as goal

-- all those so far; and the files' so far, with those of the rows that are left, are all of the files'
abbrev pub invariant-loop-row : goal.invariant-loop-row
invariant-loop-row l = (l.all.items ≡ map (λ (row : Row). fingerprint row.0) (take l.row-index l.rows)) × (l.files.items ++ file_fingerprints (drop l.row-index l.rows) ≡ file_fingerprints l.rows)
