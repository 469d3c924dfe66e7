use Rattle.std.proofs.Common.{◌≡◌, Some, Ok, ap, length, subst, arith, rules, ◌<◌, ◌∙◌}
use Rattle.std.specs.Prelude.{slice_get}
use Rattle.std.specs.Option.{option_map}
use Rattle.std.proofs.lemmas.List.{length-map}
use Rattle.board.specs.PrivateShelf.{tree_or_empty}
use Rattle.board.proofs.ShelfLemmas.{place-is}
use Rattle.board.proofs.inputs.Inputs.place.Goals as goal

pub returns : goal.returns
returns g c =
    let stands = g.P.Place.stands in
    let places = c.self.inside.places.items in
    let within : c.args.at < length places = omega (arith, c.requires, ap length c.self.view_is, length-map places (λ p. tree_or_empty (stands p))) in
    let here = place-is stands places c.args.at c.index.result.now c.self.invariant within in
    subst (λ trees. option_map Ok (slice_get trees c.args.at) ≡ Some (stands c.index.result.now)) c.self.view_is (here ∙ search rules)
