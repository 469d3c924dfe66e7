use Rattle.std.proofs.Common.{drop, ◌≡◌}
use Rattle.words.specs.Cutting.{ends_open}
use Rattle.words.proofs.QuoteLaws.{open_from}
use Rattle.words.proofs.cutting.ends_open.Given as goal

abbrev pub invariant-loop-byte : goal.invariant-loop-byte
invariant-loop-byte l = open_from l.escape l.state (drop l.byte-index l.text) ≡ ends_open l.escape l.text
