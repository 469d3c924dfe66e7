use Rattle.std.proofs.Common.{[], append-nil, sym}
use Rattle.std.specs.Vec.Iter.{into_iter_items}
use Rattle.entries.proofs.MadeFacts.{runs_more}
use Rattle.entries.proofs.making.add_runs.Goals as goal

pub loop-run-init : goal.loop-run-init
loop-run-init g c = ([], [], sym c.into_iter-run-iterator.ensures.into_iter_gives.0, tt, sym (append-nil (g.S.TakesRows.rows c.args.rows.now)))

pub loop-run-preserved : goal.loop-run-preserved
loop-run-preserved g c =
    let rows = g.S.TakesRows.rows in
    let so_far = c.loop-run.invariant in
    runs_more c.args.runs.items so_far.0 (into_iter_items c.loop-run.run-iterator) (into_iter_items c.next.new.self) c.in-Some.run' c.in-Ok.made so_far.1 (rows c.args.rows.now) (rows c.loop-run.rows) _
    so_far.2 c.in-Some.ensures.steps.0 c.in-Ok.is so_far.3 so_far.4 c.in_ok-take-in-Ok.ensures
