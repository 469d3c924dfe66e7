use Rattle.rewrite.specs.PrivateSpelled.{AreSpelled}
use Rattle.rewrite.proofs.spelled.spell_all.Given as goal

abbrev pub invariant-loop-at : goal.invariant-loop-at
invariant-loop-at l = AreSpelled (record { vertices = l.vertices; places = l.places }) l.marks l.at l.spelled.items
