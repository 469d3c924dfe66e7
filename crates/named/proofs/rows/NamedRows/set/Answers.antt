use Rattle.std.proofs.Common.{ap, ◌∙◌}
use Rattle.named.specs.Rows.{put_row}
use Rattle.named.proofs.RowFacts.{put-inserted}
use Rattle.named.proofs.rows.NamedRows.set.Goals as goal

pub returns-clause-ok : goal.returns-clause-ok
returns-clause-ok g c =
    c.in_ok-insert.ensures.entries
    ∙ put-inserted c.self.inside.rows.entries c.args.name c.args.value
    ∙ ap (λ rows. put_row rows c.args.name c.args.value) c.self.view_is
