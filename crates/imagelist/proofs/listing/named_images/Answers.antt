use Rattle.imagelist.proofs.ListingFacts.{bytes_read, bytes_refused}
use Rattle.imagelist.proofs.listing.named_images.Goals as goal

pub returns-in-Ok : goal.returns-in-Ok
returns-in-Ok g c = bytes_read c.args.bytes.now c.in-Ok.bundle c.named_by_bundle.result c.in-Ok.ensures c.named_by_bundle.ensures

pub returns-in-Err : goal.returns-in-Err
returns-in-Err g c = bytes_refused c.args.bytes.now c.in-Err.fault _ c.in-Err.ensures c.rejection_fault.ensures
