use Rattle.std.proofs.Common.{◌≡◌, take}
use Rattle.paths.proofs.reading.Walk.begin.Given as goal

-- what is kept so far are the components so far
abbrev pub invariant-loop-part : goal.invariant-loop-part
invariant-loop-part l = l.kept.items ≡ take l.part-index l.start
