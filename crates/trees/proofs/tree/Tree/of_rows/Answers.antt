use Rattle.std.proofs.Common.{◌≡◌, [], refl, subst, arith}
use Rattle.std.proofs.lemmas.Grind.{common_steps}
use Rattle.paths.specs.Path.{IsClean}
use Rattle.trees.specs.Row.{Row}
use Rattle.trees.proofs.GrowingSteps.{rest-cause, rest-more, rest-end, root-rest, root-tree}
use Rattle.trees.proofs.tree.Tree.of_rows.Goals as goal

pub invariant_of-tree : goal.invariant_of-tree
invariant_of-tree c =
    let clean : IsClean c.in-Some.path = subst IsClean c.path.view_is c.path.invariant in
    root-tree c.args.rows.items c.pop.new.self.items c.grow.new.left.items c.in-Some.path c.in-Some.entry c.in_ok-root.root [] c.in-Some.path c.in-Some.ensures.items refl refl c.in_ok-root.ensures c.requires clean

pub loop-path-init : goal.loop-path-init
loop-path-init c =
    root-rest c.args.rows.items c.pop.new.self.items c.grow.new.left.items c.in-Some.path c.in-Some.entry c.in_ok-root.root [] c.in-Some.path c.in-Some.ensures.items refl refl c.in_ok-root.ensures

pub place-requires : goal.place-requires
place-requires c =
    let row : Row = (c.in-Some-pop.path, c.in-Some-pop.entry) in
    let clean : IsClean c.in-Some-pop.path = subst IsClean c.path-in-Some-pop.view_is c.path-in-Some-pop.invariant in
    rest-cause c.args.rows.items c.loop-path.left.items c.pop-in-loop-path.new.self.items row c.in-Some-pop.ensures.items c.loop-path.tree c.loop-path.invariant c.requires clean

pub loop-path-preserved : goal.loop-path-preserved
loop-path-preserved c =
    let row : Row = (c.in-Some-pop.path, c.in-Some-pop.entry) in
    rest-more c.args.rows.items c.loop-path.left.items c.pop-in-loop-path.new.self.items row c.in-Some-pop.ensures.items c.loop-path.tree c.loop-path.invariant c.place.new.self c.in_ok-place.ensures.ok

pub returns : goal.returns
returns c =
    let done : c.loop-path.left.items ≡ [] = grind (arith, common_steps) in
    rest-end c.args.rows.items c.loop-path.left.items c.loop-path.tree done c.loop-path.invariant
