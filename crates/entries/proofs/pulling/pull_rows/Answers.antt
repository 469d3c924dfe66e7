use Rattle.std.proofs.Common.{List, sym, subst}
use Rattle.serde_json.specs.Data.{array}
use Rattle.strict.specs.Strict.{list_in}
use Rattle.borrowed.proofs.PulledFacts.{list_ends, list_is_next}
use Rattle.entries.specs.Reading.{row_in}
use Rattle.entries.specs.PrivateKeys.{AddsRows}
use Rattle.entries.specs.declared.spelled.Spelled.{Spelled}
use Rattle.entries.proofs.MadeFacts.{WaitsAt, ok_then, first_waits, next_waits, all_made, ended}
use Rattle.entries.proofs.pulling.pull_rows.Goals as goal

pub making-init : goal.making-init
making-init g c =
    let first = c.open_list.new.reader in (
      first,
      c.in_ok-open_list.ensures,
      first_waits c.in_ok-inner.inner first c.read_batch.new.reader (g.S.TakesRows.rows c.args.rows.now) c.read_batch.new.read.items c.in_ok-more.more c.requires c.in_ok-more.ensures,
    )

pub making-preserved : goal.making-preserved
making-preserved g c =
    let l = c.making in
    let first = l.invariant.0 in
    let inner = c.in_ok-inner.inner in
    let now = c.make_and_read.new.reader in
    let old = g.S.TakesRows.rows l.rows in
    let rows = g.S.TakesRows.rows c.make_and_read.new.rows in
    let more = c.in_ok-more-2.more in
    let added = subst (λ (waiting : List Spelled). AddsRows waiting old rows) c.as_slice-now.ensures.value c.in_ok-more-2.ensures.made in
    let waits = next_waits inner first l.reader now old rows l.waiting.items c.make_and_read.new.read.items l.more more c.making-test.true l.invariant.2 added c.in_ok-more-2.ensures.read in (
      first,
      l.invariant.1,
      subst (λ waiting. WaitsAt inner first now rows waiting.items more) (sym c.swap.ensures.x_after) waits,
    )

pub returns : goal.returns
unfolding list_in
returns g c =
    let l = c.making in
    let first = l.invariant.0 in
    let inner = c.in_ok-inner.inner in
    let rows = g.S.TakesRows.rows l.rows in
    let all_rows = g.S.TakesRows.rows c.add_rows.new.rows in
    ok_then c.add_rows.result _ _
    (λ made.
    let end = ended inner first l.reader rows l.waiting.items l.more c.making-test.false l.invariant.2 in
    let added = subst (λ (waiting : List Spelled). AddsRows waiting rows all_rows) c.as_slice.ensures.value made in
    let goes_on = all_made inner first end.0 rows all_rows l.waiting.items end.1 added in
    let all = list_ends inner row_in first end.0 l.reader all_rows goes_on end.2 in
    (array all.0, list_is_next c.args.depth inner _ first _ all.0 c.in_ok-inner.ensures l.invariant.1 all.1, all.2))
    c.add_rows.ensures
