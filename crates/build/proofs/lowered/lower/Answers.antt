use Rattle.std.proofs.Common.{subst}
use Rattle.std.specs.FinMap.{get}
use Rattle.trees.specs.TreeMap.{TreeMap}
use Rattle.stages.specs.Naming.{names_in}
use Rattle.stages.specs.Table.{targeted}
use Rattle.build.specs.Lowered.{target_refusal, LowersTable}
use Rattle.build.proofs.LoweredFacts.{answered_made, answered_refused}
use Rattle.build.proofs.lowered.lower.Goals as goal

pub returns-in-Ok : goal.returns-in-Ok
returns-in-Ok c =
    let args = get c.args.args.now in
    let images = c.args.images.now in
    answered_made (target_refusal (names_in images) c.args.table.now c.args.target) (targeted c.args.table.now c.args.target) c.in-Ok.table
    (LowersTable args images c.args.context.now) c.lower_lent.result c.in-Ok.ensures.table
    (subst (λ (context : TreeMap). LowersTable args images context c.in-Ok.table c.lower_lent.result) c.tree.ensures c.lower_lent.ensures)

pub returns-in-Err : goal.returns-in-Err
returns-in-Err c =
    let images = c.args.images.now in
    answered_refused (target_refusal (names_in images) c.args.table.now c.args.target) (targeted c.args.table.now c.args.target)
    (LowersTable (get c.args.args.now) images c.args.context.now) c.in-Err.fault c.in-Err.ensures.table tt
