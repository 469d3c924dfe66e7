use Rattle.imageconfig.proofs.SameFacts.{rows-told}
use Rattle.imageconfig.proofs.rows.are_rows_same.Goals as goal

pub returns : goal.returns
returns c =
    rows-told c.args.these.now c.args.those.now c.as_slice.result c.as_slice-2.result c.eq.result c.as_slice.ensures c.as_slice-2.ensures c.eq.ensures
