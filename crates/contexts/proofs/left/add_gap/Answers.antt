use Rattle.std.specs.BTreeSet.{contains}
use Rattle.std.proofs.Common.{subst}
use Rattle.paths.specs.Order.{path_cmp}
use Rattle.contexts.proofs.LeftFacts.{with_gap, without_gap}
use Rattle.contexts.proofs.left.add_gap.Goals as goal

pub returns-in_ok-insert-in-Some : goal.returns-in_ok-insert-in-Some
returns-in_ok-insert-in-Some c =
    with_gap c.args.tree.now c.args.path.now c.in-Some.gap (rw c.in-Some.is at c.in_ok-gap.ensures.gap) (contains path_cmp c.args.found.now) (contains path_cmp c.insert.new.self) c.in_ok-insert-in-Some.ensures.updates.0

pub returns-in-None : goal.returns-in-None
returns-in-None c = without_gap c.args.tree.now c.args.path.now c.in_ok-gap.ensures.tree (rw c.in-None.is at c.in_ok-gap.ensures.gap) (contains path_cmp c.args.found.now)
