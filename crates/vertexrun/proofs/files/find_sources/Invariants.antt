use Rattle.std.proofs.Common.{◌≡◌, map, take}
use Rattle.plans.specs.Files.{source_in}
use Rattle.vertexrun.proofs.files.find_sources.Given as goal

abbrev pub invariant-loop-source : goal.invariant-loop-source
invariant-loop-source l = l.found.items ≡ map (source_in l.from) (take l.source-index l.sources)
