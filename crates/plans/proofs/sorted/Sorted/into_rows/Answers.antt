use Rattle.std.proofs.Common.{◌∙◌, ap, reverse}
use Rattle.std.specs.FinMap.{entries}
use Rattle.plans.proofs.MapViews.{rows_are}
use Rattle.plans.proofs.sorted.Sorted.into_rows.Goals as goal

pub returns : goal.returns
returns g c = rows_are c.self.inside.rows.items c.self.invariant ∙ ap (λ m. reverse (entries m)) c.self.view_is
