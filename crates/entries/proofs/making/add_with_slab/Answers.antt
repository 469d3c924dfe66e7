use Rattle.std.proofs.Common.{◌++◌, ◌∷◌, [], append_assoc, ap, subst, sym, ◌∙◌}
use Rattle.entries.specs.PrivateSlab.{AreIn}
use Rattle.entries.proofs.MadeFacts.{one_more}
use Rattle.entries.proofs.SlabFacts.{next_in, nothing}
use Rattle.entries.proofs.making.add_with_slab.Goals as goal

pub loop-one-preserved : goal.loop-one-preserved
loop-one-preserved c =
    let made = c.loop-one.invariant in
    let next = next_in c.args.spelled.now c.loop-one.one-index nothing c.loop-one.slab c.loop-one-test.true made.3 in
    let cut = c.in_ok-short.ensures next.0 next.1 next.2 next.3 in
    let row = c.in_ok-row.row in (
      made.0 ++ row ∷ [],
      c.in_ok-push.ensures.items ∙ ap (λ l. l ++ row ∷ []) made.1 ∙ append_assoc c.args.rows.now.items made.0 (row ∷ []),
      one_more c.args.spelled.now c.loop-one.one-index nothing row made.0 c.loop-one-test.true made.2 c.in_ok-row.ensures,
      subst (AreIn _) (sym cut.0) next.4,
    )

pub row-requires : goal.row-requires
row-requires c =
    let made = c.loop-one.invariant in
    let next = next_in c.args.spelled.now c.loop-one.one-index nothing c.loop-one.slab c.loop-one-test.true made.3 in
    (c.in_ok-short.ensures next.0 next.1 next.2 next.3).1
