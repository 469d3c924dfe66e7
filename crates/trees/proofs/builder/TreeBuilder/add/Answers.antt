use Rattle.std.proofs.Common.{subst, sym}
use Rattle.paths.specs.Path.{IsClean}
use Rattle.trees.proofs.BuilderSteps.{none-holds, adds-holds, adds-row}
use Rattle.trees.proofs.builder.TreeBuilder.add.Goals as goal

pub invariant_of-self : goal.invariant_of-self
invariant_of-self c =
    adds-holds c.self.inside.folders.items c.add.new.folders.items c.components.result.now c.args.entry c.in-Ok.added c.self.invariant (subst IsClean (sym c.components.ensures.value) c.components.ensures.clean) c.in-Ok.ensures

pub invariant_of-self-in-Err : goal.invariant_of-self-in-Err
invariant_of-self-in-Err c = none-holds c.clear.new.self.items c.clear.ensures.items

pub returns-in-Ok : goal.returns-in-Ok
returns-in-Ok c =
    adds-row c.self.inside.folders.items c.add.new.folders.items c.args.path.now c.components.result.now c.args.entry c.in-Ok.added c.args.self.now c.self.view_is c.components.ensures.value c.in-Ok.ensures
