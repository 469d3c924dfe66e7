use Rattle.std.proofs.Common.{◌∙◌, sym, ap, Some, []}
use Rattle.std.specs.FinMap.{get}
use Rattle.trees.specs.TreeMap.{TreeMap}
use Rattle.trees.proofs.NodeLaws.{get-map_of_root}
use Rattle.trees.proofs.branch.Branch.entry.Goals as goal

pub returns : goal.returns
returns c = ap (λ (m : TreeMap). get m []) (sym c.self.view_is) ∙ get-map_of_root c.self.inside.node ∙ ap Some (sym c.entry.ensures)
