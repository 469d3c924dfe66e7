use Rattle.std.proofs.Common.{◌≡◌, drop}
use Rattle.std.specs.List.{list_all}
use Rattle.llb.specs.WellFormed.{is_well_formed_file_source}
use Rattle.llb.proofs.well_formed.are_well_formed_file_sources.Given as goal

abbrev pub invariant-loop-source : goal.invariant-loop-source
invariant-loop-source l = list_all is_well_formed_file_source (drop l.source-index l.sources) ≡ list_all is_well_formed_file_source l.sources
