use Rattle.std.proofs.Common.{◌≡◌, map, take}
use Rattle.exported.specs.Excluding.{pattern_of}
use Rattle.exported.proofs.excluding.exclude_list.Given as goal

abbrev pub invariant-loop-path : goal.invariant-loop-path
invariant-loop-path l = l.patterns ≡ map pattern_of (take l.path-index l.paths)
