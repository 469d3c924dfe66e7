use Rattle.ignorefile.specs.PrivateLeft.{AreLeavesOf, positions_in}
use Rattle.ignorefile.proofs.Leaving.{AreLeft}
use Rattle.ignorefile.proofs.index.living.Given as goal

abbrev pub invariant-loop-position : goal.invariant-loop-position
invariant-loop-position l = AreLeft l.lines l.positions l.position-index l.folder (positions_in l.left) × AreLeavesOf l.lines l.left
