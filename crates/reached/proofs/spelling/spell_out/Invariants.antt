use Rattle.std.proofs.Common.{◌≡◌, ◌<◌, ◌++◌, length}
use Rattle.std.specs.Prelude.{reverse}
use Rattle.reached.specs.Spelled.{spelled_out}
use Rattle.reached.proofs.spelling.spell_out.Given as goal

abbrev pub invariant-loop-at : goal.invariant-loop-at
invariant-loop-at l = record {
  inside : l.at < length l.vertices;
  spelled : spelled_out l.vertices l.fn.first ++ l.rest ≡ spelled_out l.vertices l.at ++ reverse l.flat.items;
}

abbrev pub decreases-loop-at : goal.decreases-loop-at
decreases-loop-at l = l.at
