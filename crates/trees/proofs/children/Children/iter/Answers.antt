use Rattle.std.proofs.Common.{ap, ◌∙◌, sym}
use Rattle.std.specs.FinMap.Entries.{is_sorted}
use Rattle.paths.specs.Order.{name_cmp}
use Rattle.paths.proofs.FrontLaws.{both_second}
use Rattle.trees.specs.PrivateNode.{lists_of, are_full}
use Rattle.trees.proofs.KidLists.{keys-from_sorted}
use Rattle.trees.proofs.children.Children.iter.Goals as goal

pub returns-clause-ordered : goal.returns-clause-ordered
returns-clause-ordered c = keys-from_sorted c.args.self.now (ap (is_sorted name_cmp) (sym c.self.view_is) ∙ both_second (are_full (lists_of c.self.inside.parts.items)) _ c.self.invariant)
