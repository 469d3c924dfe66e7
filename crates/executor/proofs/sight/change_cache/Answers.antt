use Rattle.std.proofs.Common.{arith}
use Rattle.executor.proofs.SightLemmas.{with_change-refused}
use Rattle.executor.proofs.sight.change_cache.Goals as goal

pub returns-in-Err-Because : goal.returns-in-Err-Because
returns-in-Err-Because c =
    let refused = rw c.in-Err-Because.field-0-is at c.in-Err-Because.ensures in
    with_change-refused c.args.caches.now.items c.args.number c.args.path.now c.args.change c.index_mut.result.now c.change_tree.new.tree _ (omega arith) c.index_mut.ensures.value refused.0 refused.1
