use Rattle.std.proofs.Common.{◌∙◌}
use Rattle.named.specs.Rows.{put_row}
use Rattle.named.proofs.RowFacts.{put-inserted}
use Rattle.named.proofs.rows.put_copy.Goals as goal

pub returns : goal.returns
returns g c =
    c.in_ok-insert.ensures.entries
    ∙ put-inserted c.args.rows.now.entries c.in_ok-name.name c.in_ok-value.value
    ∙ (λ i. put_row c.args.rows.now.entries (c.in_ok-name.ensures i) (c.in_ok-value.ensures i))
