use Rattle.std.proofs.lemmas.Result.{on_ok_weaker}
use Rattle.trees.proofs.TreeSteps.{place-kept, place-done}
use Rattle.trees.proofs.tree.Tree.place.Goals as goal

pub invariant_of-self : goal.invariant_of-self
invariant_of-self c =
    place-kept _ _ c.args.self.now c.args.path.now c.components.result.now _ _ c.plant.result c.self.view_is c.components.ensures.value c.self.invariant c.components.ensures.clean c.requires c.plant.ensures.ok c.plant.ensures.err

pub returns-clause-ok : goal.returns-clause-ok
returns-clause-ok c =
    on_ok_weaker _ (place-done _ _ c.args.self.now c.args.path.now c.components.result.now _ _ c.self.view_is c.components.ensures.value c.directory.ensures) c.plant.ensures.ok
