use Rattle.std.proofs.Common.{sym, subst}
use Rattle.std.specs.Prelude.{List}
use Rattle.contexts.specs.Context.{IsListing}
use Rattle.trees.specs.Row.{Row}
use Rattle.bundle.proofs.ListingFacts.{listing}
use Rattle.bundle.proofs.whole.filtered.Goals as goal

pub build-requires-after_bounds : goal.build-requires-after_bounds
build-requires-after_bounds g c κs within = subst (λ (rows : List Row). IsListing rows) (sym c.into_rows-rows.ensures.value) (listing c.args.context c.into_rows-rows.ensures.listing)
