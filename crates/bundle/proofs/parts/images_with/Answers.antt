use Rattle.std.specs.Prelude.{Bool, Some, None, if◌then◌else◌}
use Rattle.std.specs.List.{list_all}
use Rattle.std.proofs.Common.{ap, sym, ◌∙◌}
use Rattle.bundle.specs.Parts.{is_image_name, read_with}
use Rattle.bundle.proofs.parts.images_with.Goals as goal

pub returns : goal.returns
returns g c =
    ap (λ (named : Bool). if named then Some (read_with c.args.rows) else None)
    (ap (list_all (λ row. is_image_name row.0)) (sym c.as_slice.ensures) ∙ sym c.are_image_names.ensures ∙ c.if-not-are_image_names.false)
    ∙ ap Some (sym c.in_ok-read_with.ensures)
