use Rattle.entries.proofs.RowFacts.{tree-rows, tree-ways, tree-only}
use Rattle.entries.proofs.laws.the_tree_has_the_rows.Goals as goal

pub returns-clause-rows : goal.returns-clause-rows
returns-clause-rows c rows row h has = tree-rows rows row h has

pub returns-clause-ways : goal.returns-clause-ways
returns-clause-ways c rows row path way has = tree-ways rows row path way has

pub returns-clause-only : goal.returns-clause-only
returns-clause-only c rows path entry h = tree-only rows path entry h
