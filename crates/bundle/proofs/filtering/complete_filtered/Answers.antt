use Rattle.std.proofs.Common.{◌∙◌, ap, map, List}
use Rattle.trees.specs.Row.{Row}
use Rattle.bundle.proofs.FilteringFacts.{completed}
use Rattle.bundle.proofs.filtering.complete_filtered.Goals as goal

pub returns-in-Ok-complete : goal.returns-in-Ok-complete
returns-in-Ok-complete g c =
    completed c.args.parts c.in-Ok-complete.bundle c.as_slice.result.now c.in_ok-with_left_out-in-Ok-complete.field-0 c.in-Ok-complete.ensures
    (c.as_slice.ensures ∙ c.in-Ok.ensures ∙ ap (λ (rows : List Row). map (λ (row : Row). row.0) rows) c.rows.ensures.value) c.in_ok-with_left_out-in-Ok-complete.ensures
