use Rattle.imagelist.proofs.ListingFacts.{images_told, refusal_told}
use Rattle.imagelist.proofs.listing.list_images.Goals as goal

pub returns-in_ok-text-in-Ok : goal.returns-in_ok-text-in-Ok
returns-in_ok-text-in-Ok g c =
    images_told c.args.platform.now c.args.bytes.now c.in-Ok.images c.in_ok-text-in-Ok.text c.in-Ok.ensures c.in_ok-text-in-Ok.ensures

pub returns-in-Err : goal.returns-in-Err
returns-in-Err g c = refusal_told c.args.platform.now c.args.bytes.now c.in-Err.fault c.in-Err.ensures
