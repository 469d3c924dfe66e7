use Rattle.imagelist.proofs.ListingFacts.{bundle_stubbed}
use Rattle.imagelist.proofs.listing.named_by_bundle.Goals as goal

pub returns-in-Ok : goal.returns-in-Ok
returns-in-Ok c = bundle_stubbed c.args.bundle c.in-Ok.given c.named_by_file-images.result c.in-Ok.ensures c.named_by_file-images.ensures
