use Rattle.std.proofs.Common.{◌≡◌, drop}
use Rattle.std.specs.List.{list_all}
use Rattle.exported.specs.Exporting.{is_carried}
use Rattle.exported.proofs.following.is_told.Given as goal

-- all so far
abbrev pub invariant-loop-byte : goal.invariant-loop-byte
invariant-loop-byte l = list_all is_carried (drop l.byte-index l.name) ≡ list_all is_carried l.name
