use Rattle.std.proofs.Common.{◌∙◌, ◌++◌, ap}
use Rattle.std.specs.FinMap.{entries}
use Rattle.trees.specs.Rows.{lent_rows}
use Rattle.trees.specs.PrivateNode.{rows_under, map_of}
use Rattle.trees.proofs.RowLists.{rows_under-root}
use Rattle.trees.proofs.tree.Tree.entries.Goals as goal

pub returns : goal.returns
returns c =
    c.in_ok-push_rows.ensures
    ∙ (λ i. lent_rows (c.new-rows.ensures.items i) ++ rows_under (c.root.ensures i) (entries ((ap map_of c.lent.ensures ∙ c.self.view_is) i)))
    ∙ rows_under-root (entries c.args.self.now)
