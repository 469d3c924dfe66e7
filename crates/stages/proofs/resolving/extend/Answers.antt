use Rattle.stages.proofs.DraftFacts.{extend_ok, extend_err}
use Rattle.stages.proofs.resolving.extend.Goals as goal

pub returns-in-Err : goal.returns-in-Err
returns-in-Err g c =
    extend_err _ c.args.draft c.args.instruction c.kind.result.now c.as_slice.result.now c.in-Err.fault c.kind.ensures.kind c.as_slice.ensures c.in-Err.ensures

pub returns-in_ok-with_resolved-in-Ok : goal.returns-in_ok-with_resolved-in-Ok
returns-in_ok-with_resolved-in-Ok g c =
    extend_ok _ c.args.draft _ c.args.instruction c.kind.result.now c.as_slice.result.now c.in-Ok.origins c.kind.ensures.kind c.as_slice.ensures
    c.in-Ok.ensures c.in_ok-with_resolved-in-Ok.ensures
