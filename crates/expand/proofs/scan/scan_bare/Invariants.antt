use Rattle.std.proofs.Common.{drop, ◌≡◌, ◌++◌}
use Rattle.lines.specs.Escape.{byte_of}
use Rattle.std.specs.Prelude.{false}
use Rattle.expand.specs.PrivateScan.{bare_from}
use Rattle.expand.proofs.scan.scan_bare.Given as goal

abbrev pub invariant-loop-character : goal.invariant-loop-character
invariant-loop-character l = record {
  escapes : l.byte ≡ byte_of l.escape;
  found : l.found.items ++ bare_from l.escape l.is_escaped (drop l.character-index l.text) ≡ bare_from l.escape false l.text;
}
