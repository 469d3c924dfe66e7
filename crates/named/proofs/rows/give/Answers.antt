use Rattle.std.proofs.Common.{sym, ◌∙◌}
use Rattle.named.proofs.RowFacts.{give-said, give-fresh, give-kept, found-row}
use Rattle.named.proofs.rows.give.Goals as goal

pub returns-then-is_some-clause-rows : goal.returns-then-is_some-clause-rows
returns-then-is_some-clause-rows g c = c.put.ensures.rows ∙ give-said c.args.rows.now.entries c.args.name c.args.value (sym c.is_some.ensures ∙ c.if-is_some.true)

pub returns-then-not-contains_key-clause-rows : goal.returns-then-not-contains_key-clause-rows
returns-then-not-contains_key-clause-rows g c =
    c.put-then-not-contains_key.ensures.rows
    ∙ give-fresh c.args.rows.now.entries c.args.name c.args.value (sym (found-row c.args.name c.args.rows.now.entries) ∙ sym c.contains_key.ensures ∙ c.if-not-contains_key.true)

pub returns-else-not-contains_key-clause-rows : goal.returns-else-not-contains_key-clause-rows
returns-else-not-contains_key-clause-rows g c =
    give-kept c.args.rows.now.entries c.args.name c.args.value (sym c.is_some.ensures ∙ c.if-is_some.false)
    (sym (found-row c.args.name c.args.rows.now.entries) ∙ sym c.contains_key.ensures ∙ c.if-not-contains_key.false)
