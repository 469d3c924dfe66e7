use Rattle.std.proofs.Common.{◌≤◌, length, arith}
use Rattle.entries.proofs.SlabFacts.{rows_more}
use Rattle.entries.proofs.making.add_in_turn.Goals as goal

pub slabs-preserved : goal.slabs-preserved
slabs-preserved c =
    let kept = c.slabs.invariant in
    let order : c.slabs.at ≤ c.min-end.result = first_of (omega (arith, c.slabs-test.true, c.min-end.ensures, c.saturating_add.ensures), grind (arith)) in
    let inside : c.min-end.result ≤ length c.args.spelled.now = first_of (omega (arith, c.min-end.ensures), grind (arith)) in
    (inside, rows_more c.args.spelled.now c.slabs.at c.min-end.result c.args.rows.now.items c.slabs.rows.items c.add_with_slab.new.rows.items order kept.1 c.in_ok-add_with_slab.ensures)
