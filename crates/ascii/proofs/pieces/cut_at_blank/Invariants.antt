use Rattle.std.proofs.Common.{take, drop, ◌≡◌, ◌++◌}
use Rattle.ascii.specs.Pieces.{until_blank, from_blank}
use Rattle.ascii.proofs.pieces.cut_at_blank.Given as goal

abbrev pub invariant-loop-index : goal.invariant-loop-index
invariant-loop-index l = record {
  before : take l.index l.text ++ until_blank (drop l.index l.text) ≡ until_blank l.text;
  behind : from_blank (drop l.index l.text) ≡ from_blank l.text;
}
