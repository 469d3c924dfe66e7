use Rattle.std.proofs.Common.{Some, None, ap, sym, ◌∙◌, cond}
use Rattle.json.specs.Value.{value_view}
use Rattle.borrowed.specs.Seen.{seen}
use Rattle.borrowed.proofs.SeenFacts.{of_json-seen}
use Rattle.borrowed.proofs.pulling.pull_value.Goals as goal

pub returns-then-is_in_range : goal.returns-then-is_in_range
returns-then-is_in_range c =
    let j = value_view c.in-Ok.value in
    (j, c.in-Ok.ensures.ok, of_json-seen j ∙ ap (λ b. cond b (Some (seen j)) None) (sym c.is_in_range.ensures ∙ c.if-is_in_range.true))
