use Rattle.std.proofs.Common.{◌∙◌, Some, ap, slice_set}
use Rattle.std.proofs.lemmas.List.{map-set}
use Rattle.std.specs.Option.{option_map}
use Rattle.board.proofs.shelf.Shelf.put.Goals as goal

pub returns : goal.returns
returns g c =
    let stands = g.P.Place.stands in
    map-set (option_map stands) c.self.inside.places.items c.index.result (Some c.args.place)
    ∙ (ap (λ xs. slice_set xs c.index.result (Some (stands c.args.place))) c.self.view_is
    ∙ ap (λ i. slice_set c.args.self.now i (Some (stands c.args.place))) c.index.ensures)
