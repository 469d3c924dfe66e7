use Rattle.std.proofs.Common.{not, sym, ap, ◌∙◌}
use Rattle.named.specs.Rows.{has_row, add_row}
use Rattle.named.proofs.RowFacts.{found-row, add-new, add-old}
use Rattle.named.proofs.rows.NamedRows.add.Goals as goal

pub returns-then-contains_key-clause-added : goal.returns-then-contains_key-clause-added
returns-then-contains_key-clause-added g c =
    ap not (sym c.if-contains_key.true ∙ c.contains_key.ensures ∙ found-row c.args.name c.self.inside.rows.entries ∙ ap (has_row c.args.name) c.self.view_is)

pub returns-then-contains_key-clause-ok : goal.returns-then-contains_key-clause-ok
returns-then-contains_key-clause-ok g c =
    add-old c.args.self.now c.args.name c.args.value
    (sym (sym c.if-contains_key.true ∙ c.contains_key.ensures ∙ found-row c.args.name c.self.inside.rows.entries ∙ ap (has_row c.args.name) c.self.view_is))

pub returns-clause-added : goal.returns-clause-added
returns-clause-added g c =
    ap not (sym c.if-contains_key.false ∙ c.contains_key.ensures ∙ found-row c.args.name c.self.inside.rows.entries ∙ ap (has_row c.args.name) c.self.view_is)

pub returns-clause-ok : goal.returns-clause-ok
returns-clause-ok g c =
    c.in_ok-insert.ensures.entries
    ∙ add-new c.self.inside.rows.entries c.args.name c.args.value
    (sym (found-row c.args.name c.self.inside.rows.entries) ∙ sym c.contains_key.ensures ∙ c.if-contains_key.false)
    ∙ ap (λ rows. add_row rows c.args.name c.args.value) c.self.view_is
