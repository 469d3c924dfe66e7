use Rattle.std.proofs.lemmas.List.{take_all}
use Rattle.paths.proofs.WalkLaws.{walk_start}
use Rattle.paths.proofs.reading.Walk.begin.Goals as goal

pub returns : goal.returns
returns c = rw (c.loop-part.invariant, take_all _ _ c.loop-part-test.false) (walk_start _ c.requires)
