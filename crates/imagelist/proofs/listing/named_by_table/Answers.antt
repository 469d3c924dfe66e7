use Rattle.imagelist.proofs.ListingFacts.{table_named}
use Rattle.imagelist.proofs.listing.named_by_table.Goals as goal

pub returns-in-Ok : goal.returns-in-Ok
returns-in-Ok c =
    table_named c.args.table c.stages.result.now c.in-Ok.needed c.as_slice.result.now c.images_of-images.result c.in-Ok.ensures c.as_slice.ensures c.stages.ensures.stages
    c.images_of-images.ensures
