use Rattle.std.proofs.Common.{◌∙◌, ap}
use Rattle.std.specs.FinMap.{get}
use Rattle.plans.proofs.SortedSteps.{stands_of, goes_of, stands_found, goes_none}
use Rattle.plans.proofs.sorted.Sorted.get.Goals as goal

pub returns-in-Ok : goal.returns-in-Ok
returns-in-Ok g c =
    let stands = stands_of c.args.name.now c.as_slice.result.now c.self.inside.rows.items c.in-Ok.at c.as_slice.ensures.value c.in-Ok.ensures.stands in
    stands_found c.args.name.now c.self.inside.rows.items c.in-Ok.at c.index.result.now c.self.invariant stands c.index.ensures ∙ ap (λ m. get m c.args.name.now) c.self.view_is

pub returns-in-Err : goal.returns-in-Err
returns-in-Err g c =
    let goes = goes_of c.args.name.now c.as_slice.result.now c.self.inside.rows.items c.in-Err.field-0 c.as_slice.ensures.value c.in-Err.ensures.absent in
    goes_none c.args.name.now c.self.inside.rows.items c.in-Err.field-0 goes ∙ ap (λ m. get m c.args.name.now) c.self.view_is
