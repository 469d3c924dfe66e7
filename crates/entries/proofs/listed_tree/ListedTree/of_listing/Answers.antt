use Rattle.std.proofs.Common.{subst, sym}
use Rattle.trees.specs.Whole.{ArePlaceable}
use Rattle.entries.proofs.RowFacts.{placeable}
use Rattle.entries.proofs.listed_tree.ListedTree.of_listing.Goals as goal

pub of_rows-requires : goal.of_rows-requires
of_rows-requires c = subst ArePlaceable (sym c.into_rows-rows.ensures.value) (placeable c.args.listing c.into_rows-rows.ensures.listing)
