use Rattle.std.proofs.Common.{◌≡◌, take}
use Rattle.ignorefile.proofs.ignore.count_shared.Given as goal

abbrev pub invariant-loop-index : goal.invariant-loop-index
invariant-loop-index l = take l.index l.these ≡ take l.index l.those
