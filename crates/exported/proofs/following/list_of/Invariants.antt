use Rattle.std.proofs.Common.{◌≡◌, map, take}
use Rattle.exported.specs.Excluding.{pattern_of}
use Rattle.exported.proofs.following.list_of.Given as goal

-- the patterns of the paths so far
abbrev pub invariant-loop-path : goal.invariant-loop-path
invariant-loop-path l = l.patterns ≡ map pattern_of (take l.path-index l.paths)
