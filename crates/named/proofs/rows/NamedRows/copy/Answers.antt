use Rattle.std.proofs.Common.{[], sym, ap, ◌∙◌}
use Rattle.named.specs.Rows.{put_rows}
use Rattle.named.proofs.RowFacts.{put-apart}
use Rattle.named.proofs.rows.NamedRows.copy.Goals as goal

pub returns : goal.returns
returns g c =
    sym (ap (put_rows c.loop-name.rows.entries) c.in-None.ensures.steps.0)
    ∙ c.loop-name.invariant
    ∙ ap (put_rows []) (c.into_iter-name-iterator.ensures.into_iter_gives ∙ c.iter-name-items.ensures.rest)
    ∙ put-apart [] c.self.inside.rows.entries c.len.ensures.unique
    ∙ c.self.view_is
