use Rattle.std.proofs.Common.{arith}
use Rattle.paths.proofs.WalkLaws.{walk_down, walk_down_beyond}
use Rattle.paths.proofs.reading.Walk.enter.Goals as goal

pub returns-in_ok-push : goal.returns-in_ok-push
returns-in_ok-push c p h =
    rw (c.in_ok-push.ensures.items, c.in_ok-from_str.ensures) (walk_down c.args.self.now.kept.items _ p c.args.name.now (omega arith) h)

pub returns-else-len-lt-MOST_COMPONENTS : goal.returns-else-len-lt-MOST_COMPONENTS
returns-else-len-lt-MOST_COMPONENTS c p h = walk_down_beyond c.args.self.now.kept.items _ p c.args.name.now (omega arith) h
