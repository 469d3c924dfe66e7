use Rattle.std.proofs.Common.{ap, ◌∙◌}
use Rattle.named.specs.Rows.{has_row}
use Rattle.named.proofs.RowFacts.{found-row}
use Rattle.named.proofs.rows.NamedRows.has.Goals as goal

pub returns : goal.returns
returns g c = c.contains_key.ensures ∙ found-row c.args.name.now c.self.inside.rows.entries ∙ ap (has_row c.args.name.now) c.self.view_is
