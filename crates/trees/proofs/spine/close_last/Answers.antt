use Rattle.trees.proofs.ForkSteps.{popped-rise, popped-held}
use Rattle.trees.proofs.spine.close_last.Goals as goal

pub hold-requires : goal.hold-requires
hold-requires c = popped-rise c.args.folders.now.items c.pop.new.self.items c.pop-2.new.self.items c.in-Some.last c.in-Some-pop.above c.in-Some.ensures.items c.in-Some-pop.ensures.items c.requires

pub returns : goal.returns
returns c =
    popped-held c.args.folders.now.items c.pop.new.self.items c.pop-2.new.self.items c.in-Some.last c.in-Some-pop.above c.in-Some.ensures.items c.in-Some-pop.ensures.items c.push.new.self.items c.in_ok-folder.folder c.requires c.in_ok-folder.ensures c.in_ok-push.ensures.items
