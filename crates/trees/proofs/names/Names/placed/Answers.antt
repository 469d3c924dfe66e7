use Rattle.std.proofs.Common.{◌∙◌, ap, drop}
use Rattle.std.proofs.lemmas.List.{drop_all}
use Rattle.std.specs.FinMap.Entries.{is_sorted}
use Rattle.paths.specs.Order.{name_cmp}
use Rattle.trees.specs.PrivateSeen.{seen_kids}
use Rattle.trees.proofs.SeenSteps.{placed-row, rows-placed, sorted-seen}
use Rattle.trees.proofs.names.Names.placed.Goals as goal

pub loop-row-preserved : goal.loop-row-preserved
loop-row-preserved c =
    placed-row c.args.options.now c.loop-row.rows.items c.push.new.self.items c.as_slice-all.result.now c.loop-row.row-index c.row-item.result c.in_ok-copy.field-0 c.in_ok-placed.field-0 c.loop-row.invariant c.loop-row-test.true c.row-item.is
    c.in_ok-copy.ensures c.in_ok-placed.ensures c.in_ok-push.ensures.items

pub invariant_of-result : goal.invariant_of-result
invariant_of-result c =
    let all = c.as_slice-all.result.now in
    let done = rows-placed c.args.options.now c.loop-row.rows.items all (drop c.loop-row.row-index all) c.loop-row.invariant (drop_all c.loop-row.row-index all c.loop-row-test.false) in
    ap (is_sorted name_cmp) done ∙ sorted-seen c.args.options.now all ∙ ap (is_sorted name_cmp) c.as_slice-all.ensures.value ∙ c.self.invariant

pub returns : goal.returns
returns c =
    let all = c.as_slice-all.result.now in
    rows-placed c.args.options.now c.loop-row.rows.items all (drop c.loop-row.row-index all) c.loop-row.invariant (drop_all c.loop-row.row-index all c.loop-row-test.false)
    ∙ ap (seen_kids c.args.options.now) (c.as_slice-all.ensures.value ∙ c.self.view_is)
