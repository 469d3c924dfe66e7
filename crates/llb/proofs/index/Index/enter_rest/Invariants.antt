use Rattle.std.proofs.Common.{◌≤◌, ◌-◌, length}
use Rattle.llb.specs.Index.{IsIndexed}
use Rattle.llb.specs.PrivateIndex.{IsIndex}
use Rattle.llb.proofs.index.Index.enter_rest.Given as goal

abbrev pub invariant-loop-alloc : goal.invariant-loop-alloc
invariant-loop-alloc l = record {
  index : IsIndex l.self;
  indexed : IsIndexed l.vertices l.self;
  low : length l.self.hashes.items ≤ length l.vertices;
}

abbrev pub decreases-loop-alloc : goal.decreases-loop-alloc
decreases-loop-alloc l = length l.vertices - length l.self.hashes.items
