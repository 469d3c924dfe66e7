use Rattle.std.proofs.Common.{◌∙◌, ap}
use Rattle.serde_json.specs.Written.{has_float}
use Rattle.trees.specs.Rows.{lent_rows}
use Rattle.entries.proofs.WrittenFacts.{tree-plain}
use Rattle.entries.proofs.writing.tree_to_json.Goals as goal

pub returns-clause-plain : goal.returns-clause-plain
returns-clause-plain c = ap has_float c.in_ok-tree.ensures ∙ tree-plain (lent_rows c.args.entries.now)
