use Rattle.std.proofs.Common.{◌≡◌, drop}
use Rattle.std.specs.List.{list_any}
use Rattle.llb.specs.WellFormed.{is_pattern}
use Rattle.actions.proofs.sources.has_pattern.Given as goal

abbrev pub invariant-loop-source : goal.invariant-loop-source
invariant-loop-source l = list_any is_pattern (drop l.source-index l.sources) ≡ list_any is_pattern l.sources
