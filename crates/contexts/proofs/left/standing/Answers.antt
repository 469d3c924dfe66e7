use Rattle.std.proofs.Common.{arith}
use Rattle.trees.specs.Rows.{entry_of}
use Rattle.contexts.proofs.LeftFacts.{nothing_next, child_below, child_there, there_more}
use Rattle.contexts.proofs.left.standing.Goals as goal

pub returns-in-None : goal.returns-in-None
returns-in-None c =
    let i = c.loop-name.name-index in
    let tree = c.args.tree.now in
    let names = c.args.names.now in
    let inv = c.loop-name.invariant in
    let next = nothing_next tree c.loop-name.branch names i c.name-item.result c.loop-name-test.true c.name-item.is inv.below c.child.result c.child.ensures c.in-None.is in
    record { most = omega (arith, inv.depth); there = λ n most. inv.there n (omega (arith, inv.depth, most)); next = λ within. rw inv.depth next }

pub loop-name-preserved : goal.loop-name-preserved
loop-name-preserved c =
    let i = c.loop-name.name-index in
    let tree = c.args.tree.now in
    let names = c.args.names.now in
    let inv = c.loop-name.invariant in
    let below = child_below tree c.loop-name.branch names i c.name-item.result c.loop-name-test.true c.name-item.is inv.below c.in-Some.child c.child.result c.child.ensures c.in-Some.is in
    record { depth = omega (arith, inv.depth); below = below; there = there_more tree names i inv.there (child_there tree c.in-Some.child names i (entry_of c.entry-entry.result) below c.entry-entry.ensures) }
