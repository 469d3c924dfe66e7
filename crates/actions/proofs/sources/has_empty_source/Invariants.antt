use Rattle.std.proofs.Common.{◌≡◌, drop}
use Rattle.std.specs.List.{list_any}
use Rattle.expand.specs.Expanding.{is_empty}
use Rattle.actions.specs.PrivateTexts.{is_pattern_that}
use Rattle.actions.proofs.sources.has_empty_source.Given as goal

abbrev pub invariant-loop-source : goal.invariant-loop-source
invariant-loop-source l = list_any (is_pattern_that is_empty) (drop l.source-index l.sources) ≡ list_any (is_pattern_that is_empty) l.sources
