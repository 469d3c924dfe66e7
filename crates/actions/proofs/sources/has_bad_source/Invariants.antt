use Rattle.std.proofs.Common.{◌≡◌, drop}
use Rattle.std.specs.List.{list_any}
use Rattle.globs.specs.Glob.{is_malformed}
use Rattle.actions.specs.PrivateTexts.{is_pattern_that}
use Rattle.actions.proofs.sources.has_bad_source.Given as goal

abbrev pub invariant-loop-source : goal.invariant-loop-source
invariant-loop-source l = list_any (is_pattern_that is_malformed) (drop l.source-index l.sources) ≡ list_any (is_pattern_that is_malformed) l.sources
