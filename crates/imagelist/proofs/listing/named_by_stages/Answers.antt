use Rattle.std.specs.FinMap.{get}
use Rattle.stages.specs.Naming.{names_in}
use Rattle.stages.specs.Resolved.{resolved}
use Rattle.imagelist.proofs.ListingFacts.{stages_named, stages_refused}
use Rattle.imagelist.proofs.listing.named_by_stages.Goals as goal

pub returns-in_ok-images-in-Ok : goal.returns-in_ok-images-in-Ok
returns-in_ok-images-in-Ok c =
    let bundle = c.args.bundle.now in
    stages_named (resolved (names_in bundle.images) (get bundle.args) bundle.target c.args.file) c.in-Ok.table c.in_ok-images-in-Ok.images c.in-Ok.ensures
    c.in_ok-images-in-Ok.ensures

pub returns-in-Err : goal.returns-in-Err
returns-in-Err c =
    let bundle = c.args.bundle.now in
    stages_refused (resolved (names_in bundle.images) (get bundle.args) bundle.target c.args.file) c.in-Err.fault c.in-Err.ensures
