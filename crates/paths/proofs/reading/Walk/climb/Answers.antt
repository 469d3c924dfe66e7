use Rattle.std.proofs.Common.{arith}
use Rattle.paths.proofs.WalkLaws.{walk_up_beyond, walk_up}
use Rattle.paths.proofs.reading.Walk.climb.Goals as goal

pub returns-then-self-gt0 : goal.returns-then-self-gt0
returns-then-self-gt0 c p h = walk_up_beyond _ _ p c.if-self-gt0.true h

pub returns-else-self-gt0 : goal.returns-else-self-gt0
returns-else-self-gt0 c p h =
    walk_up c.args.self.now.kept.items c.pop.new.self.items _ _ p c.pop.ensures.rest (omega arith) c.if-self-gt0.false h
