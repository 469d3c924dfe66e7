use Rattle.contexts.proofs.Placing.{wanted-placed}
use Rattle.contexts.proofs.places.place_rows.Goals as goal

pub of_rows-requires : goal.of_rows-requires
of_rows-requires c = c.in_ok-wanted.ensures.wanted.placeable

pub returns-clause-tree : goal.returns-clause-tree
returns-clause-tree c = wanted-placed c.args.rows.items c.args.flags.now c.in_ok-wanted.wanted.items c.in_ok-tree.tree c.in_ok-tree.ensures c.in_ok-wanted.ensures.wanted
