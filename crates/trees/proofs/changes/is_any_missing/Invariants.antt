use Rattle.std.proofs.Common.{◌≡◌, drop}
use Rattle.std.specs.List.{list_any}
use Rattle.trees.specs.Copy.{is_missing}
use Rattle.trees.proofs.changes.is_any_missing.Given as goal

abbrev pub invariant-loop-source : goal.invariant-loop-source
invariant-loop-source l = list_any (is_missing l.from) (drop l.source-index l.sources) ≡ list_any (is_missing l.from) l.sources
