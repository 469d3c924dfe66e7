use Rattle.std.proofs.Common.{◌∙◌, List, take, sym, ap, arith}
use Rattle.std.proofs.lemmas.List.{drop_all}
use Rattle.rows.specs.declared.row.Origin.{Origin}
use Rattle.imagelist.specs.PrivateCollecting.{with_origins}
use Rattle.imagelist.proofs.CollectFacts.{line_added}
use Rattle.imagelist.proofs.collecting.add_origins.Goals as goal

pub returns : goal.returns
returns c =
    let origins = c.args.origins.now in
    let now = c.loop-index in
    sym (ap (λ (rest : List Origin). with_origins now.rows c.args.line c.args.needed (take now.index origins) rest) (drop_all now.index origins (omega arith)))
    ∙ now.invariant
    ∙ line_added c.args.rows.now c.args.line c.args.needed origins
