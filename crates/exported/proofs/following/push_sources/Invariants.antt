use Rattle.std.proofs.Common.{◌≡◌, ◌++◌, drop}
use Rattle.exported.specs.Following.{sources_paths}
use Rattle.exported.proofs.following.push_sources.Given as goal

-- the paths so far, and those of what is left
abbrev pub invariant-loop-source : goal.invariant-loop-source
invariant-loop-source l = l.paths ++ sources_paths (drop l.source-index l.sources) ≡ l.fn.paths ++ sources_paths l.sources
