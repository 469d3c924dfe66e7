use Rattle.imagelist.proofs.ListingFacts.{text_read, text_refused}
use Rattle.imagelist.proofs.listing.named_by_file.Goals as goal

pub returns-in-Ok : goal.returns-in-Ok
returns-in-Ok c =
    text_read c.args.bundle.now c.as_slice.result.now c.in-Ok.file c.named_by_stages.result c.as_slice.ensures c.in-Ok.ensures c.named_by_stages.ensures

pub returns-in-Err : goal.returns-in-Err
returns-in-Err c =
    text_refused c.args.bundle.now c.as_slice.result.now c.in-Err.fault _ c.as_slice.ensures c.in-Err.ensures c.rejection_fault.ensures
