use Rattle.std.proofs.Common.{ap, ◌∙◌}
use Rattle.std.proofs.lemmas.Result.{on_ok_weaker}
use Rattle.imagelist.specs.Images.{Naming}
use Rattle.imagelist.specs.PrivateCollecting.{with_naming}
use Rattle.imagelist.proofs.RowFacts.{Rows, row_put, row_added}
use Rattle.imagelist.proofs.image_rows.ImageRows.add.Goals as goal

pub returns-in-Some : goal.returns-in-Some
returns-in-Some c =
    let naming : Naming = record { name = c.args.name.now; line = c.args.line; needed = c.args.needed } in
    let rows : Rows = c.self.inside.rows.entries in
    on_ok_weaker c.add.result
    (λ added. row_put rows naming c.in-Some.index c.index_mut.result.now c.add.new.self c.in-Some.ensures.index c.in-Some.ensures.value c.index_mut.ensures.value added
    ∙ ap (λ (rs : Rows). with_naming rs naming) c.self.view_is)
    c.add.ensures

pub returns-in_ok-insert-in-None : goal.returns-in_ok-insert-in-None
returns-in_ok-insert-in-None c =
    let naming : Naming = record { name = c.args.name.now; line = c.args.line; needed = c.args.needed } in
    let rows : Rows = c.self.inside.rows.entries in
    c.in_ok-insert-in-None.ensures.entries
    ∙ row_added rows naming c.in_ok-copy-in-None.field-0 c.in_ok-used-in-None.used c.in-None.ensures.index c.in_ok-copy-in-None.ensures c.in_ok-used-in-None.ensures
    ∙ ap (λ (rs : Rows). with_naming rs naming) c.self.view_is
